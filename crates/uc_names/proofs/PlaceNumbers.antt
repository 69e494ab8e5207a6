-- Enums by their places.
use Rattle.std.proofs.Common.{◌≡◌, ℕ, zero, suc, ◌+◌, ◌<◌, ◌≤◌, Bool, true, false, List, [], ◌∷◌, ◌++◌, length, take, get_or, map, Option, Some, None, refl, ap, ◌∙◌, sym, subst, arith}
use Rattle.std.specs.Prelude.{nat_eq, cond, ◌&&◌, slice_get, unwrap_or}
use Rattle.std.specs.List.{flat_map, position_from}
use Rattle.std.proofs.lemmas.List.{length-take-le, take_more, take_all}
use Rattle.std.proofs.lemmas.Bool.{and_parts}
use Rattle.std.proofs.lemmas.Option.{slice_get-get_or}
use Rattle.indexmap.specs.IndexMap.{get}
use Rattle.uc_syntax.specs.declared.declaration.Module.{Module}
use Rattle.uc_lexer.specs.declared.place.Place.{Place}
use Rattle.uc_syntax.specs.WrittenTypes.{Written, enums_of, enums_of_module}
use Rattle.uc_meaning.specs.Lookup.{System, or_else, same_place}
use Rattle.uc_meaning.specs.Types.{enum_number}
use Rattle.uc_rules.specs.Names.{only_if}
use Rattle.uc_rules.proofs.Lists.{take_turn}
use Rattle.uc_names.specs.declared.firsts.Firsts.{Firsts}
use Rattle.uc_names.specs.Senses.{module_in}
use Rattle.uc_names.proofs.FirstEntries.{first_begin, first_more}
use Rattle.uc_type_names.specs.declared.enums.WrittenEnum.{WrittenEnum}
use Rattle.uc_type_names.specs.Lent.{meant, enum_meant}
use Rattle.uc_names.specs.contracts.place_key.PlaceKeyPartialEq.TheImpl.{eq-value}
use Rattle.uc_names.specs.declared.place_key.PlaceKey.{PlaceKey}
use Rattle.uc_names.specs.declared.enums.EnumNumbers.{EnumNumbers}
use Rattle.uc_names.specs.ModuleNamesNumbers.{key_of, number_at, AreModules, AreNumbered}
use Rattle.uc_names.proofs.Forms.{module_found}

nat_turn : (a b : ℕ) → nat_eq a b ≡ nat_eq b a
nat_turn a b = by (nat_eq a b) (nat_eq b a) refl refl
  where
    by : (p q : Bool) → nat_eq a b ≡ p → nat_eq b a ≡ q → p ≡ q
    by true true e f = refl
    by false false e f = refl
    by true false e f = grind (arith, e, f)
    by false true e f = grind (arith, e, f)

-- the test of keys is that of places
pub same_keys : (q p : Place) → eq-value.it (key_of q) (key_of p) ≡ same_place p q
same_keys q p = (λ k. nat_turn q.file p.file k && (nat_turn q.line p.line k && nat_turn q.col p.col k))

or_none : {B : Type 0} (o : Option B) → or_else o None ≡ o
or_none None = refl
or_none (Some y) = refl

nats_same : (a b : ℕ) → nat_eq a b ≡ true → a ≡ b
nats_same a b e = grind (arith, e)

places_same : (p q : Place) → same_place p q ≡ true → p ≡ q
places_same p q e =
    let a : (nat_eq p.file q.file ≡ true) × ((nat_eq p.line q.line && nat_eq p.col q.col) ≡ true) = and_parts (nat_eq p.file q.file) (nat_eq p.line q.line && nat_eq p.col q.col) e in
    let b : (nat_eq p.line q.line ≡ true) × (nat_eq p.col q.col ≡ true) = and_parts (nat_eq p.line q.line) (nat_eq p.col q.col) a.1 in
    (λ k. record { file = nats_same p.file q.file a.0 k; line = nats_same p.line q.line b.0 k; col = nats_same p.col q.col b.1 k })

pub entered_new : (old new : Place → Option ℕ) (q : Place) (n : ℕ) → ((p : Place) → new p ≡ cond (eq-value.it (key_of q) (key_of p)) (Some n) (old p)) → old q ≡ None →
    (p : Place) → new p ≡ or_else (old p) (only_if (same_place p q) (Some n))
entered_new old new q n says none p = says p ∙ ap (λ b. cond b (Some n) (old p)) (same_keys q p) ∙ by (same_place p q) refl
  where
    by : (b : Bool) → same_place p q ≡ b → cond b (Some n) (old p) ≡ or_else (old p) (only_if b (Some n))
    by true e = sym (ap (λ o. or_else o (Some n)) (ap old (places_same p q e) ∙ none))
    by false e = sym (or_none (old p))

pub entered_known : (old : Place → Option ℕ) (q : Place) (n k : ℕ) → old q ≡ Some k → (p : Place) → old p ≡ or_else (old p) (only_if (same_place p q) (Some n))
entered_known old q n k known p = by (same_place p q) refl
  where
    by : (b : Bool) → same_place p q ≡ b → old p ≡ or_else (old p) (only_if b (Some n))
    by true e =
        let is : old p ≡ Some k = ap old (places_same p q e) ∙ known in
        is ∙ sym (ap (λ o. or_else o (Some n)) is)
    by false e = sym (or_none (old p))

-- the first place in a list with one more element
chosen : (b : Bool) (i : ℕ) (o : Option ℕ) (r : Option ℕ) → cond b (Some i) (or_else o r) ≡ or_else (cond b (Some i) o) r
chosen true i o r = refl
chosen false i o r = refl

one : (b : Bool) (i : ℕ) → cond b (Some i) None ≡ only_if b (Some i)
one true i = refl
one false i = refl

position_push : {A : Type 0} (test : A → Bool) (i : ℕ) (xs : List A) (y : A) → position_from test i (xs ++ y ∷ []) ≡ or_else (position_from test i xs) (only_if (test y) (Some (i + length xs)))
position_push test i [] y = let n : i ≡ i + 0 = omega arith in one (test y) i ∙ ap (λ k. only_if (test y) (Some k)) n
position_push test i (x ∷ xs) y =
    let n : i + 1 + length xs ≡ i + length (x ∷ xs) = omega arith in
    ap (cond (test x) (Some i)) (position_push test (i + 1) xs y ∙ ap (λ k. or_else (position_from test (i + 1) xs) (only_if (test y) (Some k))) n)
    ∙ chosen (test x) i (position_from test (i + 1) xs) (only_if (test y) (Some (i + length (x ∷ xs))))

pub numbered_begin : (t : EnumNumbers) (es : List WrittenEnum) → ((p : Place) → number_at t p ≡ None) → AreNumbered t (take 0 es)
unfolding AreNumbered
numbered_begin t es none p = none p

length_take : {A : Type 0} (k : ℕ) (xs : List A) → k < length xs → length (take k xs) ≡ k
length_take k xs h = length-take-le k xs (omega (arith, h))

number : {A : Type 0} (k : ℕ) (xs : List A) → k < length xs → k ≡ 0 + length (take k xs)
number k xs h = omega (arith, length_take k xs h)

pub numbered_more : (old new : EnumNumbers) (es : List WrittenEnum) (k : ℕ) (e d : WrittenEnum) → AreNumbered old (take k es) → k < length es → e ≡ get_or es k d →
    ((p : Place) → number_at new p ≡ or_else (number_at old p) (only_if (same_place p e.place) (Some k))) → AreNumbered new (take (k + 1) es)
unfolding AreNumbered
numbered_more old new es k e d held within at says p =
    says p
    ∙ ap (λ o. or_else o (only_if (same_place p e.place) (Some k))) (held p)
    ∙ ap (λ n. or_else (position_from (λ x. same_place p x.place) 0 (take k es)) (only_if (same_place p e.place) (Some n))) (number k es within)
    ∙ sym (position_push (λ x. same_place p x.place) 0 (take k es) e)
    ∙ sym (ap (position_from (λ x. same_place p x.place) 0) (take_more es k d within ∙ ap (λ x. take k es ++ x ∷ []) (sym at)))

pub numbered_turn : (old new : EnumNumbers) (es : List WrittenEnum) (k : ℕ) (d : WrittenEnum) → AreNumbered old (take k es) → k < length es →
    ((p : Place) → number_at new p ≡ or_else (number_at old p) (only_if (same_place p (get_or es k d).place) (Some k))) → AreNumbered new (take (k + 1) es)
numbered_turn old new es k d held within says = numbered_more old new es k (get_or es k d) d held within refl says

pub numbered_end : (t : EnumNumbers) (es : List WrittenEnum) (k : ℕ) → AreNumbered t (take k es) → length es ≤ k → AreNumbered t es
numbered_end t es k held past = subst (AreNumbered t) (take_all k es past) held

position_meant : (p : Place) (i : ℕ) (es : List WrittenEnum) → position_from (λ e. same_place p e.place) i es ≡ position_from (λ e. same_place p e.place) i (map enum_meant es)
position_meant p i [] = refl
position_meant p i (e ∷ es) = ap (cond (same_place p e.place) (Some i)) (position_meant p (i + 1) es)

-- the numbers of all enums of a design
pub numbers_known : (system : System) (t : EnumNumbers) (es written : List WrittenEnum) → AreNumbered t es → es ≡ written → meant written ≡ flat_map enums_of_module system.modules →
    (p : Place) → unwrap_or (number_at t p) 0 ≡ enum_number system p
unfolding AreNumbered meant enum_number enums_of
numbers_known system t es written held same is p =
    ap (λ o. unwrap_or o 0)
    (held p ∙ position_meant p 0 es ∙ ap (λ xs. position_from (λ e. same_place p e.place) 0 (map enum_meant xs)) same ∙ ap (position_from (λ e. same_place p e.place) 0) is)

-- ---- modules by their names

pub modules_begin : (ms : List Module) (t : Firsts ℕ) → ((x : ℕ) → get nat_eq t.things x ≡ None) → AreModules ms t (take 0 ms)
modules_begin ms t none = first_begin (λ x n. nat_eq n.name x) (module_in ms) (λ n. Some n) _ none

pub modules_more : (ms : List Module) (old new : Firsts ℕ) (k : ℕ) (m d : Module) → AreModules ms old (take k ms) → k < length ms → m ≡ get_or ms k d →
    ((x : ℕ) → get nat_eq new.things x ≡ or_else (get nat_eq old.things x) (only_if (nat_eq m.name x) (Some k))) → AreModules ms new (take (k + 1) ms)
modules_more ms old new k m d held within at says =
    let there : slice_get ms k ≡ Some m = slice_get-get_or ms k d within ∙ ap (λ n. Some n) (sym at) in
    subst (AreModules ms new) (sym (take_turn ms k m d within at))
    (first_more (λ x n. nat_eq n.name x) (module_in ms) (λ n. Some n) _ _ (take k ms) m (Some k) held (ap (λ n. Some n) (module_found ms k m there)) says)

pub modules_end : (ms : List Module) (t : Firsts ℕ) (k : ℕ) → AreModules ms t (take k ms) → length ms ≤ k → AreModules ms t ms
modules_end ms t k held past = subst (AreModules ms t) (take_all k ms past) held
