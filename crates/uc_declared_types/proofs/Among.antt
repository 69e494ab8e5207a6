-- What is among the elements of a list, and what each of them is.
use Rattle.std.proofs.Common.{◌≡◌, Bool, true, false, List, [], ◌∷◌, ◌++◌, Option, Some, None, map, refl, ap, sym, subst, ◌∙◌, ◌⊎◌, inl, inr, ⊎_elim}
use Rattle.std.specs.Prelude.{cond}
use Rattle.std.specs.List.{flat_map, find}
use Rattle.uc_declared_types.specs.AliasLaw.{IsAmong}

pub among_left : {A : Type 0} (x : A) (xs ys : List A) → IsAmong x xs → IsAmong x (xs ++ ys)
unfolding IsAmong
among_left x [] ys h = absurd h
among_left x (y ∷ xs) ys h = ⊎_elim (λ e. inl e) (λ r. inr (among_left x xs ys r)) h

pub among_right : {A : Type 0} (x : A) (xs ys : List A) → IsAmong x ys → IsAmong x (xs ++ ys)
unfolding IsAmong
among_right x [] ys h = h
among_right x (y ∷ xs) ys h = inr (among_right x xs ys h)

pub among_split : {A : Type 0} (x : A) (xs ys : List A) → IsAmong x (xs ++ ys) → IsAmong x xs ⊎ IsAmong x ys
unfolding IsAmong
among_split x [] ys h = inr h
among_split x (y ∷ xs) ys h = ⊎_elim (λ e. inl (inl e)) (λ r. ⊎_elim (λ a. inl (inr a)) (λ b. inr b) (among_split x xs ys r)) h

pub among_flat : {A B : Type 0} (f : A → List B) (x : A) (y : B) (xs : List A) → IsAmong x xs → IsAmong y (f x) → IsAmong y (flat_map f xs)
unfolding IsAmong
among_flat f x y [] h there = absurd h
among_flat f x y (z ∷ xs) h there =
    ⊎_elim (λ e. among_left y (f z) (flat_map f xs) (subst (λ w. IsAmong y (f w)) e there)) (λ r. among_right y (f z) (flat_map f xs) (among_flat f x y xs r there)) h

-- what all that a list gives has in common with what gave it
pub among_back : {A B : Type 0} (f : A → List B) (y : B) (xs : List A) → IsAmong y (flat_map f xs) → (x : A) × IsAmong x xs × IsAmong y (f x)
unfolding IsAmong
among_back f y [] h = absurd h
among_back f y (x ∷ xs) h =
    ⊎_elim (λ a. (x, inl refl, a)) (λ b. let r = among_back f y xs b in (r.0, inr r.1, r.2)) (among_split y (f x) (flat_map f xs) h)

pub find_among : {A : Type 0} (test : A → Bool) (xs : List A) (y : A) → find test xs ≡ Some y → IsAmong y xs
unfolding IsAmong
find_among test [] y h = cc
find_among test (x ∷ xs) y h = by (test x) h (find_among test xs y)
  where
    by : (b : Bool) → cond b (Some x) (find test xs) ≡ Some y → (find test xs ≡ Some y → IsAmong y xs) → (y ≡ x) ⊎ IsAmong y xs
    by true e more = inl cc
    by false e more = inr (more e)

-- each element of a list
unfoldable pub Every : {A : Type 0} → (A → Type 0) → List A → Type 0
Every P [] = Unit {0}
Every P (x ∷ xs) = P x × Every P xs

pub every_append : {A : Type 0} (P : A → Type 0) (xs ys : List A) → Every P xs → Every P ys → Every P (xs ++ ys)
unfolding Every
every_append P [] ys h k = k
every_append P (x ∷ xs) ys h k = (h.0, every_append P xs ys h.1 k)

pub every_flat : {A B : Type 0} (P : B → Type 0) (f : A → List B) (xs : List A) → ((x : A) → IsAmong x xs → Every P (f x)) → Every P (flat_map f xs)
unfolding Every IsAmong
every_flat P f [] h = tt
every_flat P f (x ∷ xs) h = every_append P (f x) (flat_map f xs) (h x (inl refl)) (every_flat P f xs (λ y r. h y (inr r)))

pub every_map : {A B : Type 0} (P : B → Type 0) (f : A → B) (xs : List A) → ((x : A) → P (f x)) → Every P (map f xs)
unfolding Every
every_map P f [] h = tt
every_map P f (x ∷ xs) h = (h x, every_map P f xs h)

pub every_one : {A : Type 0} (P : A → Type 0) (x : A) → P x → Every P (x ∷ [])
unfolding Every
every_one P x h = (h, tt)

pub every_none : {A : Type 0} (P : A → Type 0) → Every P []
unfolding Every
every_none P = tt
