-- The parts of a list are no larger than all of it.
use Rattle.std.proofs.Common.{◌≡◌, ℕ, zero, suc, ◌+◌, ◌<◌, ◌≤◌, List, [], ◌∷◌, map, length, drop, get_or, ap, arith}
use Rattle.uc_meaning.specs.Shapes.{total}

among : {A : Type 0} (w : A → ℕ) (xs : List A) (k : ℕ) (d : A) → k < length xs → w (get_or xs k d) ≤ total (map w xs)
unfolding total
among w [] k d within = absurd (omega (arith, within))
among w (x ∷ xs) zero d within = omega arith
among w (x ∷ xs) (suc k) d within = omega (arith, among w xs k d (omega (arith, within)))

pub part_size : {A : Type 0} (w : A → ℕ) (xs : List A) (k : ℕ) (x d : A) → k < length xs → x ≡ get_or xs k d → w x ≤ total (map w xs)
part_size w xs k x d within is = omega (arith, among w xs k d within, ap w is)

pub rest_size : {A : Type 0} (w : A → ℕ) (xs : List A) (k : ℕ) → total (map w (drop k xs)) ≤ total (map w xs)
unfolding total
rest_size w xs zero = omega arith
rest_size w [] (suc k) = omega arith
rest_size w (x ∷ xs) (suc k) = omega (arith, rest_size w xs k)
