-- Places of lists, and what stands there.
use Rattle.std.proofs.Common.{◌≡◌, ℕ, zero, suc, ◌+◌, ◌<◌, ◌≤◌, Bool, true, false, List, [], ◌∷◌, ◌++◌, length, map, take, get_or, Option, Some, None, refl, ap, sym, subst, ◌∙◌, arith, ◌⊎◌, inl, inr, ⊎_elim}
use Rattle.std.specs.Prelude.{nat_eq, slice_get, slice_index_or, unwrap_or}
use Rattle.std.specs.List.{flat_map}
use Rattle.std.specs.Option.{option_map}
use Rattle.std.proofs.lemmas.List.{append-nil, take_all, take_more}
use Rattle.uc_syntax.specs.declared.declaration.Module.{Module}
use Rattle.uc_declared_types.specs.AliasLaw.{IsAmong}
use Rattle.uc_names.specs.Senses.{module_in}

pub none_some : {A B : Type 0} (x : A) → None ≡ Some x → B
none_some x h = cc

pub same_some : {A : Type 0} (x y : A) → Some x ≡ Some y → x ≡ y
same_some x y h = ap (λ o. unwrap_or o x) h

pub equal : (n m : ℕ) → nat_eq n m ≡ true → n ≡ m
equal n m h = grind (arith, h)

pub same : (n : ℕ) → nat_eq n n ≡ true
same n = grind arith

pub get_last : {A : Type 0} (xs : List A) (y : A) → slice_get (xs ++ y ∷ []) (length xs) ≡ Some y
get_last [] y = refl
get_last (x ∷ xs) y = get_last xs y

pub get_before : {A : Type 0} (xs : List A) (y : A) (n : ℕ) (x : A) → slice_get xs n ≡ Some x → slice_get (xs ++ y ∷ []) n ≡ Some x
get_before [] y zero x h = none_some x h
get_before [] y (suc n) x h = none_some x h
get_before (z ∷ xs) y zero x h = h
get_before (z ∷ xs) y (suc n) x h = get_before xs y n x h

pub get_map : {A B : Type 0} (f : A → B) (xs : List A) (n : ℕ) (x : A) → slice_get xs n ≡ Some x → slice_get (map f xs) n ≡ Some (f x)
get_map f [] zero x h = none_some x h
get_map f [] (suc n) x h = none_some x h
get_map f (y ∷ xs) zero x h = ap (option_map f) h
get_map f (y ∷ xs) (suc n) x h = get_map f xs n x h

pub index_map : {A B : Type 0} (f : A → B) (d : B) (xs : List A) (n : ℕ) (x : A) → slice_get xs n ≡ Some x → slice_index_or (map f xs) n d ≡ f x
index_map f d [] zero x h = none_some x h
index_map f d [] (suc n) x h = none_some x h
index_map f d (y ∷ xs) zero x h = ap f (same_some y x h)
index_map f d (y ∷ xs) (suc n) x h = index_map f d xs n x h

pub index_none : {A B : Type 0} (f : A → B) (d : B) (xs : List A) (n : ℕ) → slice_get xs n ≡ None → slice_index_or (map f xs) n d ≡ d
index_none f d [] n h = refl
index_none f d (y ∷ xs) zero h = none_some y (sym h)
index_none f d (y ∷ xs) (suc n) h = index_none f d xs n h

pub map_twice : {A B C : Type 0} (f : B → C) (g : A → B) (xs : List A) → map (λ x. f (g x)) xs ≡ map f (map g xs)
map_twice f g [] = refl
map_twice f g (x ∷ xs) = ap (λ ys. f (g x) ∷ ys) (map_twice f g xs)

append_three : {A : Type 0} (xs ys zs : List A) → (xs ++ ys) ++ zs ≡ xs ++ (ys ++ zs)
append_three [] ys zs = refl
append_three (x ∷ xs) ys zs = ap (λ ws. x ∷ ws) (append_three xs ys zs)

pub joined : {A : Type 0} (a b c xs ys : List A) → b ≡ a ++ xs → c ≡ b ++ ys → c ≡ a ++ (xs ++ ys)
joined a b c xs ys h k = k ∙ ap (λ zs. zs ++ ys) h ∙ append_three a xs ys

pub flat_append : {A B : Type 0} (f : A → List B) (xs ys : List A) → flat_map f (xs ++ ys) ≡ flat_map f xs ++ flat_map f ys
flat_append f [] ys = refl
flat_append f (x ∷ xs) ys = ap (λ zs. f x ++ zs) (flat_append f xs ys) ∙ sym (append_three (f x) (flat_map f xs) (flat_map f ys))

pub flat_more : {A B : Type 0} (f : A → List B) (xs : List A) (k : ℕ) (d : A) → k < length xs → flat_map f (take (k + 1) xs) ≡ flat_map f (take k xs) ++ f (get_or xs k d)
flat_more f xs k d within =
    ap (flat_map f) (take_more xs k d within) ∙ flat_append f (take k xs) (get_or xs k d ∷ []) ∙ ap (λ ys. flat_map f (take k xs) ++ ys) (append-nil (f (get_or xs k d)))

pub flat_all : {A B : Type 0} (f : A → List B) (xs : List A) (k : ℕ) → length xs ≤ k → flat_map f (take k xs) ≡ flat_map f xs
flat_all f xs k past = ap (flat_map f) (take_all k xs past)

pub less_or_same : (n k : ℕ) → n < k + 1 → (n < k) ⊎ (n ≡ k)
less_or_same zero zero h = inr refl
less_or_same zero (suc k) h = inl (omega arith)
less_or_same (suc n) zero h = absurd (omega (arith, h))
less_or_same (suc n) (suc k) h = ⊎_elim (λ a. inl (omega (arith, a))) (λ b. inr (ap suc b)) (less_or_same n k (omega (arith, h)))

-- a module of a list stands at a place
pub module_at : (m : Module) (ms : List Module) → IsAmong m ms → (k : ℕ) × (k < length ms) × (module_in ms k ≡ m)
unfolding IsAmong
module_at m [] h = absurd h
module_at m (n ∷ ms) h = ⊎_elim (λ e. (0, omega arith, sym e)) (λ r. let p = module_at m ms r in (suc p.0, omega (arith, p.1), p.2)) h
