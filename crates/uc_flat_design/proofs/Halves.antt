-- Lists of two halves.
use Rattle.std.proofs.Common.{◌≡◌, ℕ, ◌+◌, List, [], ◌∷◌, ◌++◌, length, zero, suc, ap, ◌∙◌, arith}
use Rattle.std.specs.Prelude.{slice_get, slice_set}
use Rattle.uc_values.specs.declared.value.Value.{Value}
use Rattle.uc_ops.specs.Meaning.{part}

pub set_behind : {A : Type 0} (xs ys : List A) (k n : ℕ) (v : A) → n ≡ length xs → slice_set (xs ++ ys) (k + n) v ≡ xs ++ slice_set ys k v
set_behind [] ys k n v h = ap (λ i. slice_set ys i v) (omega (arith, h))
set_behind (x ∷ xs) ys k zero v h = absurd (omega (arith, h))
set_behind (x ∷ xs) ys k (suc n) v h =
    ap (λ i. slice_set (x ∷ (xs ++ ys)) i v) (onward k n) ∙ ap (λ zs. x ∷ zs) (set_behind xs ys k n v (omega (arith, h)))
  where
    onward : (a b : ℕ) → a + suc b ≡ suc (a + b)
    onward a b = omega arith

pub get_behind : {A : Type 0} (xs ys : List A) (k n : ℕ) → n ≡ length xs → slice_get (xs ++ ys) (k + n) ≡ slice_get ys k
get_behind [] ys k n h = ap (slice_get ys) (omega (arith, h))
get_behind (x ∷ xs) ys k zero h = absurd (omega (arith, h))
get_behind (x ∷ xs) ys k (suc n) h = ap (slice_get (x ∷ (xs ++ ys))) (onward k n) ∙ get_behind xs ys k n (omega (arith, h))
  where
    onward : (a b : ℕ) → a + suc b ≡ suc (a + b)
    onward a b = omega arith

pub part_behind : (xs ys : List Value) (k n : ℕ) → n ≡ length xs → part (xs ++ ys) (k + n) ≡ part ys k
part_behind [] ys k n h = ap (part ys) (omega (arith, h))
part_behind (x ∷ xs) ys k zero h = absurd (omega (arith, h))
part_behind (x ∷ xs) ys k (suc n) h = ap (part (x ∷ (xs ++ ys))) (onward k n) ∙ part_behind xs ys k n (omega (arith, h))
  where
    onward : (a b : ℕ) → a + suc b ≡ suc (a + b)
    onward a b = omega arith
