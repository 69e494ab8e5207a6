-- The first entry of a name, as entries are added at the end.
use Rattle.std.proofs.Common.{◌≡◌, ℕ, ◌+◌, ◌<◌, ◌≤◌, Bool, true, false, List, [], ◌∷◌, ◌++◌, length, take, get_or, map, Option, Some, None, refl, ap, ◌∙◌, sym, subst, arith}
use Rattle.std.specs.Prelude.{nat_eq, cond, ◌||◌}
use Rattle.std.specs.Option.{option_map, is_some}
use Rattle.std.specs.List.{find, list_any}
use Rattle.std.proofs.lemmas.List.{take_all, map-append}
use Rattle.uc_syntax.specs.declared.declaration.Module.{Module}
use Rattle.uc_meaning.specs.Lookup.{first_some, or_else}
use Rattle.uc_rules.specs.Names.{Entry as Meant, Sense, first_fitting, is_entry, only_if}
use Rattle.uc_rules.proofs.Lists.{take_turn}
use Rattle.uc_names.specs.declared.senses.Entry.{Entry}
use Rattle.uc_names.specs.declared.table.NameTable.{NameTable}
use Rattle.uc_names.specs.Senses.{entries_meant, entry_meant}
use Rattle.uc_names.specs.Tables.{AreFirst, Holds}

or_none : {B : Type 0} (o : Option B) → or_else o None ≡ o
or_none None = refl
or_none (Some y) = refl

or_or : {B : Type 0} (a b c : Option B) → or_else (or_else a b) c ≡ or_else a (or_else b c)
or_or None b c = refl
or_or (Some y) b c = refl

-- nothing is entered
pub entered_none : {B : Type 0} (o : Option B) (b : Bool) → o ≡ or_else o (only_if b None)
entered_none o true = sym (or_none o)
entered_none o false = sym (or_none o)

-- a name that has no thing gets one
pub entered_new : {T : Type 0} (old new : ℕ → Option T) (name : ℕ) (y : T) → ((q : ℕ) → new q ≡ cond (nat_eq name q) (Some y) (old q)) → old name ≡ None →
    (x : ℕ) → new x ≡ or_else (old x) (only_if (nat_eq name x) (Some y))
entered_new old new name y says none x = says x ∙ by (nat_eq name x) refl
  where
    by : (b : Bool) → nat_eq name x ≡ b → cond b (Some y) (old x) ≡ or_else (old x) (only_if b (Some y))
    by true e = let same : name ≡ x = grind (arith, e) in sym (ap (λ o. or_else o (Some y)) (ap old (sym same) ∙ none))
    by false e = sym (or_none (old x))

-- a name that has a thing keeps it
pub entered_known : {T : Type 0} (old : ℕ → Option T) (name : ℕ) (y z : T) → old name ≡ Some z → (x : ℕ) → old x ≡ or_else (old x) (only_if (nat_eq name x) (Some y))
entered_known old name y z known x = by (nat_eq name x) refl
  where
    by : (b : Bool) → nat_eq name x ≡ b → old x ≡ or_else (old x) (only_if b (Some y))
    by true e =
        let same : name ≡ x = grind (arith, e) in
        let is : old x ≡ Some z = ap old (sym same) ∙ known in
        is ∙ sym (ap (λ o. or_else o (Some y)) is)
    by false e = sym (or_none (old x))

first_push : {A B : Type 0} (f : A → Option B) (xs : List A) (y : A) → first_some f (xs ++ y ∷ []) ≡ or_else (first_some f xs) (f y)
unfolding first_some
first_push f [] y = or_none (f y)
first_push f (x ∷ xs) y = ap (or_else (f x)) (first_push f xs y) ∙ sym (or_or (f x) (first_some f xs) (f y))

map_or : {T B : Type 0} (g : T → B) (a b : Option T) → option_map g (or_else a b) ≡ or_else (option_map g a) (option_map g b)
map_or g None b = refl
map_or g (Some y) b = refl

map_only : {T B : Type 0} (g : T → B) (b : Bool) (o : Option T) → option_map g (only_if b o) ≡ only_if b (option_map g o)
map_only g true o = refl
map_only g false o = refl

pub first_begin : {A T B : Type 0} (is_of : ℕ → A → Bool) (meant : T → B) (gives : A → Option B) (table : ℕ → Option T) → ((x : ℕ) → table x ≡ None) → AreFirst is_of meant gives table []
unfolding AreFirst first_some
first_begin is_of meant gives table none x = ap (option_map meant) (none x)

pub first_more : {A T B : Type 0} (is_of : ℕ → A → Bool) (meant : T → B) (gives : A → Option B) (old new : ℕ → Option T) (xs : List A) (e : A) (o : Option T) →
    AreFirst is_of meant gives old xs → option_map meant o ≡ gives e → ((x : ℕ) → new x ≡ or_else (old x) (only_if (is_of x e) o)) →
    AreFirst is_of meant gives new (xs ++ e ∷ [])
unfolding AreFirst
first_more is_of meant gives old new xs e o held is says x =
    let step : option_map meant (only_if (is_of x e) o) ≡ only_if (is_of x e) (gives e) = map_only meant (is_of x e) o ∙ ap (only_if (is_of x e)) is in
    ap (option_map meant) (says x)
    ∙ map_or meant (old x) (only_if (is_of x e) o)
    ∙ (λ k. or_else (held x k) (step k))
    ∙ sym (first_push (λ d. only_if (is_of x d) (gives d)) xs e)

-- what a table has of a name is what the first fitting entry gives
pub first_gives : {T B : Type 0} (meant : T → B) (fit : Sense → Option B) (table : ℕ → Option T) (es : List Meant) (x : ℕ) (r : Option T) →
    AreFirst is_entry meant (λ e. fit e.sense) table es → r ≡ table x → option_map meant r ≡ first_fitting fit x es
unfolding AreFirst first_fitting
first_gives meant fit table es x r held is = ap (option_map meant) is ∙ held x

found_by : {A : Type 0} (test : A → Bool) (b : Bool) (y : A) (rest : Option A) → or_else (only_if b (Some y)) rest ≡ cond b (Some y) rest
found_by test true y rest = refl
found_by test false y rest = refl

find_first : {A : Type 0} (test : A → Bool) (xs : List A) → first_some (λ e. only_if (test e) (Some e)) xs ≡ find test xs
unfolding first_some
find_first test [] = refl
find_first test (x ∷ xs) = found_by test (test x) x (first_some (λ e. only_if (test e) (Some e)) xs) ∙ ap (cond (test x) (Some x)) (find_first test xs)

pub first_found : {A T : Type 0} (is_of : ℕ → A → Bool) (meant : T → A) (table : ℕ → Option T) (xs : List A) (x : ℕ) (r : Option T) →
    AreFirst is_of meant (λ e. Some e) table xs → r ≡ table x → option_map meant r ≡ find (is_of x) xs
unfolding AreFirst
first_found is_of meant table xs x r held is = ap (option_map meant) is ∙ held x ∙ find_first (is_of x) xs

any_some : {A : Type 0} (b : Bool) (y : A) (o : Option A) → is_some (cond b (Some y) o) ≡ (b || is_some o)
any_some true y o = refl
any_some false y o = refl

any_found : {A : Type 0} (test : A → Bool) (xs : List A) → is_some (find test xs) ≡ list_any test xs
any_found test [] = refl
any_found test (x ∷ xs) = any_some (test x) x (find test xs) ∙ ap (λ b. test x || b) (any_found test xs)

map_some : {T B : Type 0} (g : T → B) (o : Option T) → is_some o ≡ is_some (option_map g o)
map_some g None = refl
map_some g (Some y) = refl

pub some_found : {T : Type 0} (meant : T → Meant) (es : List Meant) (x : ℕ) (r : Option T) → option_map meant r ≡ find (is_entry x) es → is_some r ≡ list_any (is_entry x) es
some_found meant es x r is = map_some meant r ∙ ap is_some is ∙ any_found (is_entry x) es

-- ---- tables

pub holds_begin : (ms : List Module) (t : NameTable) (es : List Entry) → Holds ms t [] → Holds ms t (entries_meant ms (take 0 es))
unfolding entries_meant
holds_begin ms t es h = h

pub holds_more : (ms : List Module) (t : NameTable) (es : List Entry) (k : ℕ) (e d : Entry) → k < length es → e ≡ get_or es k d →
    Holds ms t (entries_meant ms (take k es) ++ entry_meant ms e ∷ []) → Holds ms t (entries_meant ms (take (k + 1) es))
unfolding entries_meant
holds_more ms t es k e d within at h =
    subst (Holds ms t) (sym (ap (map (entry_meant ms)) (take_turn es k e d within at) ∙ map-append (entry_meant ms) (take k es) (e ∷ []))) h

pub holds_end : (ms : List Module) (t : NameTable) (es : List Entry) (k : ℕ) → length es ≤ k → Holds ms t (entries_meant ms (take k es)) → Holds ms t (entries_meant ms es)
holds_end ms t es k past h = subst (λ xs. Holds ms t (entries_meant ms xs)) (take_all k es past) h
