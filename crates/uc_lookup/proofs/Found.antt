-- The first answer along a list, step by step.
use Rattle.std.proofs.Common.{◌≡◌, ℕ, suc, ◌+◌, ◌<◌, ◌≤◌, List, [], ◌∷◌, length, drop, get_or, add-one, drop-cons, Option, Some, None, Bool, true, false, refl, ap, ◌∙◌, sym}
use Rattle.std.specs.Prelude.{nat_eq, cond}
use Rattle.std.specs.List.{find, filter_map, cons_option}
use Rattle.std.proofs.lemmas.List.{drop_all}
use Rattle.uc_syntax.specs.declared.declaration.Decl.{Decl}
use Rattle.uc_meaning.specs.Lookup.{InstanceParts, first_some, or_else, some_if, instance_in}
use Rattle.uc_lookup.specs.Parts.{if_named, instance_named}

split : {A : Type 0} (xs : List A) (k : ℕ) (x d : A) → k < length xs → x ≡ get_or xs k d → drop k xs ≡ x ∷ drop (k + 1) xs
split xs k x d within is =
    drop-cons xs k d within ∙ (ap (λ y. y ∷ drop (suc k) xs) (sym is) ∙ ap (λ n. x ∷ drop n xs) (sym (add-one k)))

first_split : {A B : Type 0} (f : A → Option B) (xs : List A) (k : ℕ) (x d : A) → k < length xs → x ≡ get_or xs k d → first_some f (drop k xs) ≡ or_else (f x) (first_some f (drop (k + 1) xs))
unfolding first_some
first_split f xs k x d within is = ap (first_some f) (split xs k x d within is)

pub first_found : {A B : Type 0} (f : A → Option B) (xs : List A) (k : ℕ) (x d : A) (y : B) (r : Option B) → k < length xs → x ≡ get_or xs k d → f x ≡ Some y → first_some f (drop k xs) ≡ r → Some y ≡ r
first_found f xs k x d y r within is some before =
    sym (first_split f xs k x d within is ∙ ap (λ o. or_else o (first_some f (drop (k + 1) xs))) some) ∙ before

pub first_more : {A B : Type 0} (f : A → Option B) (xs : List A) (k : ℕ) (x d : A) (r : Option B) → k < length xs → x ≡ get_or xs k d → f x ≡ None → first_some f (drop k xs) ≡ r → first_some f (drop (k + 1) xs) ≡ r
first_more f xs k x d r within is none before =
    sym (first_split f xs k x d within is ∙ ap (λ o. or_else o (first_some f (drop (k + 1) xs))) none) ∙ before

pub first_end : {A B : Type 0} (f : A → Option B) (xs : List A) (k : ℕ) (r : Option B) → length xs ≤ k → first_some f (drop k xs) ≡ r → None ≡ r
unfolding first_some
first_end f xs k r past before = sym (ap (first_some f) (drop_all k xs past)) ∙ before

instance_chosen : (x : ℕ) (i : InstanceParts) (ds : List Decl) (b : Bool) → first_some (instance_named x) ds ≡ find (λ j. nat_eq j.name x) (filter_map instance_in ds) →
    or_else (some_if b i) (first_some (instance_named x) ds) ≡ cond b (Some i) (find (λ j. nat_eq j.name x) (filter_map instance_in ds))
instance_chosen x i ds true rest = refl
instance_chosen x i ds false rest = rest

instance_first : (x : ℕ) (o : Option InstanceParts) (ds : List Decl) → first_some (instance_named x) ds ≡ find (λ j. nat_eq j.name x) (filter_map instance_in ds) →
    or_else (if_named x o) (first_some (instance_named x) ds) ≡ find (λ j. nat_eq j.name x) (cons_option o (filter_map instance_in ds))
instance_first x None ds rest = rest
instance_first x (Some i) ds rest = instance_chosen x i ds (nat_eq i.name x) rest

-- the instance of a name is the first one that a declaration gives
pub first_instance : (x : ℕ) (ds : List Decl) → first_some (instance_named x) ds ≡ find (λ i. nat_eq i.name x) (filter_map instance_in ds)
unfolding first_some
first_instance x [] = refl
first_instance x (d ∷ ds) = instance_first x (instance_in d) ds (first_instance x ds)
