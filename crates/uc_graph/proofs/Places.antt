-- What stands at a place of a list, and past it.
use Rattle.std.proofs.Common.{◌≡◌, ℕ, zero, suc, ◌<◌, ◌≤◌, List, [], ◌∷◌, length, Option, Some, None, refl, arith}
use Rattle.std.specs.Prelude.{slice_get, slice_index_or}

pub index_past : {A : Type 0} (xs : List A) (k : ℕ) (d : A) → None ≡ slice_get xs k → d ≡ slice_index_or xs k d
index_past [] k d h = refl
index_past (x ∷ xs) zero d h = cc
index_past (x ∷ xs) (suc k) d h = index_past xs k d h

pub index_found : {A : Type 0} (xs : List A) (k : ℕ) (x d : A) → Some x ≡ slice_get xs k → x ≡ slice_index_or xs k d
index_found [] k x d h = cc
index_found (y ∷ xs) zero x d h = cc
index_found (y ∷ xs) (suc k) x d h = index_found xs k x d h

pub found_within : {A : Type 0} (xs : List A) (k : ℕ) (x : A) → Some x ≡ slice_get xs k → k < length xs
found_within [] k x h = cc
found_within (y ∷ xs) zero x h = omega arith
found_within (y ∷ xs) (suc k) x h = let l = found_within xs k x h in omega (arith, l)

pub past_length : {A : Type 0} (xs : List A) (k : ℕ) → None ≡ slice_get xs k → length xs ≤ k
past_length [] k h = omega arith
past_length (y ∷ xs) zero h = cc
past_length (y ∷ xs) (suc k) h = let l = past_length xs k h in omega (arith, l)
