-- Places of lists.
use Rattle.std.specs.Prelude.{◌≡◌, ℕ, ◌<◌, List, [], ◌∷◌, map, length, slice_get, Some, All}
use Rattle.std.proofs.Common.{refl, arith, zero, suc}
use Rattle.std.proofs.lemmas.List.Elements.{All-head, All-tail}

pub slice_get-within : {A : Type 0} (xs : List A) (k : ℕ) (x : A) → slice_get xs k ≡ Some x → k < length xs
slice_get-within [] k x h = cc
slice_get-within (y ∷ xs) zero x h = omega arith
slice_get-within (y ∷ xs) (suc k) x h = omega (arith, slice_get-within xs k x h)

pub at_place : {A : Type 0} (xs : List A) (k : ℕ) → k < length xs → (x : A) × (slice_get xs k ≡ Some x)
at_place [] k h = absurd (omega arith)
at_place (x ∷ xs) zero h = (x, refl)
at_place (x ∷ xs) (suc k) h = at_place xs k (omega arith)

pub same_map : {A B : Type 0} (f g : A → B) (P : A → Type 0) (xs : List A) → ((x : A) → P x → f x ≡ g x) → All P xs → map f xs ≡ map g xs
same_map f g P [] e h = refl
same_map f g P (x ∷ xs) e h =
    let head = e x (All-head P x xs h) in
    let rest = same_map f g P xs e (All-tail P x xs h) in
    cc
