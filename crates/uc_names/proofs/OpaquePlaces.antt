-- Types without a definition by their names.
use Rattle.std.proofs.Common.{◌≡◌, ℕ, zero, suc, ◌+◌, ◌<◌, ◌≤◌, Bool, true, false, List, [], ◌∷◌, ◌++◌, length, take, get_or, map, Option, Some, None, refl, ap, ◌∙◌, sym, subst, arith}
use Rattle.std.specs.Prelude.{nat_eq, cond, ◌&&◌, unwrap_or}
use Rattle.std.specs.List.{flat_map, filter_map, cons_option, position_from}
use Rattle.std.proofs.lemmas.List.{length-take-le, take_more, take_all}
use Rattle.std.proofs.lemmas.Bool.{and_parts}
use Rattle.uc_syntax.specs.declared.declaration.Module.{Module}
use Rattle.uc_meaning.specs.Lookup.{System, or_else}
use Rattle.uc_meaning.specs.Types.{opaque_in, opaque_number, opaque_types_of}
use Rattle.uc_meaning.specs.Cells.{as_list}
use Rattle.uc_rules.specs.Names.{only_if}
use Rattle.uc_names.specs.contracts.numbers.TypeKeyPartialEq.TheImpl.{eq-value}
use Rattle.uc_names.specs.declared.numbers.OpaqueNumbers.{OpaqueNumbers}
use Rattle.uc_names.specs.Opaques.{opaques_in}
use Rattle.uc_names.specs.TypeHomesNumbers.{key_of, number_at, AreNumbered, KnowsOpaques}

-- the test of keys is that of names
same_keys : (a b m x : ℕ) → eq-value.it (key_of a b) (key_of m x) ≡ (nat_eq a m && nat_eq b x)
same_keys a b m x = refl

or_none : {B : Type 0} (o : Option B) → or_else o None ≡ o
or_none None = refl
or_none (Some y) = refl

nats_same : (a b : ℕ) → nat_eq a b ≡ true → b ≡ a
nats_same a b e = grind (arith, e)

here : (old : ℕ → ℕ → Option ℕ) (a b m x : ℕ) → (nat_eq a m && nat_eq b x) ≡ true → old m x ≡ old a b
here old a b m x e =
    let s : (nat_eq a m ≡ true) × (nat_eq b x ≡ true) = and_parts (nat_eq a m) (nat_eq b x) e in
    (λ k. old (nats_same a m s.0 k) (nats_same b x s.1 k))

pub entered_new : (old new : ℕ → ℕ → Option ℕ) (a b n : ℕ) → ((m x : ℕ) → new m x ≡ cond (eq-value.it (key_of a b) (key_of m x)) (Some n) (old m x)) → old a b ≡ None →
    (m x : ℕ) → new m x ≡ or_else (old m x) (only_if (nat_eq a m && nat_eq b x) (Some n))
entered_new old new a b n says none m x = says m x ∙ ap (λ t. cond t (Some n) (old m x)) (same_keys a b m x) ∙ by (nat_eq a m && nat_eq b x) refl
  where
    by : (t : Bool) → (nat_eq a m && nat_eq b x) ≡ t → cond t (Some n) (old m x) ≡ or_else (old m x) (only_if t (Some n))
    by true e = sym (ap (λ o. or_else o (Some n)) (here old a b m x e ∙ none))
    by false e = sym (or_none (old m x))

pub entered_known : (old : ℕ → ℕ → Option ℕ) (a b n k : ℕ) → old a b ≡ Some k → (m x : ℕ) → old m x ≡ or_else (old m x) (only_if (nat_eq a m && nat_eq b x) (Some n))
entered_known old a b n k known m x = by (nat_eq a m && nat_eq b x) refl
  where
    by : (t : Bool) → (nat_eq a m && nat_eq b x) ≡ t → old m x ≡ or_else (old m x) (only_if t (Some n))
    by true e =
        let is : old m x ≡ Some k = here old a b m x e ∙ known in
        is ∙ sym (ap (λ o. or_else o (Some n)) is)
    by false e = sym (or_none (old m x))

-- the first place in a list with one more element
chosen : (b : Bool) (i : ℕ) (o : Option ℕ) (r : Option ℕ) → cond b (Some i) (or_else o r) ≡ or_else (cond b (Some i) o) r
chosen true i o r = refl
chosen false i o r = refl

one : (b : Bool) (i : ℕ) → cond b (Some i) None ≡ only_if b (Some i)
one true i = refl
one false i = refl

position_push : {A : Type 0} (test : A → Bool) (i : ℕ) (xs : List A) (y : A) → position_from test i (xs ++ y ∷ []) ≡ or_else (position_from test i xs) (only_if (test y) (Some (i + length xs)))
position_push test i [] y = let n : i ≡ i + 0 = omega arith in one (test y) i ∙ ap (λ k. only_if (test y) (Some k)) n
position_push test i (x ∷ xs) y =
    let n : i + 1 + length xs ≡ i + length (x ∷ xs) = omega arith in
    ap (cond (test x) (Some i)) (position_push test (i + 1) xs y ∙ ap (λ k. or_else (position_from test (i + 1) xs) (only_if (test y) (Some k))) n)
    ∙ chosen (test x) i (position_from test (i + 1) xs) (only_if (test y) (Some (i + length (x ∷ xs))))

pub numbered_begin : (t : OpaqueNumbers) (ps : List (ℕ × ℕ)) → ((m x : ℕ) → number_at t m x ≡ None) → AreNumbered t (take 0 ps)
unfolding AreNumbered
numbered_begin t ps none m x = none m x

length_take : {A : Type 0} (k : ℕ) (xs : List A) → k < length xs → length (take k xs) ≡ k
length_take k xs h = length-take-le k xs (omega (arith, h))

number : {A : Type 0} (k : ℕ) (xs : List A) → k < length xs → k ≡ 0 + length (take k xs)
number k xs h = omega (arith, length_take k xs h)

abbrev is_of : ℕ → ℕ → ℕ × ℕ → Bool
is_of m x p = nat_eq p.0 m && nat_eq p.1 x

pub numbered_turn : (old new : OpaqueNumbers) (ps : List (ℕ × ℕ)) (k : ℕ) (d : ℕ × ℕ) → AreNumbered old (take k ps) → k < length ps →
    ((m x : ℕ) → number_at new m x ≡ or_else (number_at old m x) (only_if (nat_eq (get_or ps k d).0 m && nat_eq (get_or ps k d).1 x) (Some k))) → AreNumbered new (take (k + 1) ps)
unfolding AreNumbered
numbered_turn old new ps k d held within says m x =
    says m x
    ∙ ap (λ o. or_else o (only_if (is_of m x (get_or ps k d)) (Some k))) (held m x)
    ∙ ap (λ n. or_else (position_from (is_of m x) 0 (take k ps)) (only_if (is_of m x (get_or ps k d)) (Some n))) (number k ps within)
    ∙ sym (position_push (is_of m x) 0 (take k ps) (get_or ps k d))
    ∙ sym (ap (position_from (is_of m x) 0) (take_more ps k d within))

pub numbered_end : (t : OpaqueNumbers) (ps : List (ℕ × ℕ)) (k : ℕ) → AreNumbered t (take k ps) → length ps ≤ k → AreNumbered t ps
numbered_end t ps k held past = subst (AreNumbered t) (take_all k ps past) held

-- ---- all types without a definition

optional_step : {B : Type 0} (o : Option B) (xs ys : List B) → xs ≡ ys → cons_option o xs ≡ as_list o ++ ys
optional_step None xs ys rest = rest
optional_step (Some y) xs ys rest = ap (λ zs. y ∷ zs) rest

optional : {A B : Type 0} (f : A → Option B) (xs : List A) → filter_map f xs ≡ flat_map (λ x. as_list (f x)) xs
optional f [] = refl
optional f (x ∷ xs) = optional_step (f x) (filter_map f xs) (flat_map (λ y. as_list (f y)) xs) (optional f xs)

same_flat : {A B : Type 0} (f g : A → List B) (xs : List A) → ((x : A) → f x ≡ g x) → flat_map f xs ≡ flat_map g xs
same_flat f g xs e = ap (λ h. flat_map h xs) (λ k x. e x k)

all_opaques : (s : System) → flat_map opaques_in s.modules ≡ opaque_types_of s
unfolding opaque_types_of
all_opaques s = sym (same_flat _ opaques_in s.modules (λ m. optional (opaque_in m.name) m.decls))

-- the numbers of all types of a design
pub opaques_known : (s : System) (t : OpaqueNumbers) (ps listed : List (ℕ × ℕ)) → AreNumbered t ps → ps ≡ listed → listed ≡ flat_map opaques_in s.modules → KnowsOpaques s t
unfolding AreNumbered opaque_number
opaques_known s t ps listed held same is = record {
  numbers_known = λ m x. ap (λ o. unwrap_or o 0) (held m x ∙ ap (position_from (is_of m x) 0) (same ∙ is ∙ all_opaques s));
}
