-- The operators that work bit by bit, and the number of a whole number that widens a bit-vector.
use Rattle.std.specs.Prelude.{◌≡◌, ℕ, pos, ◌≤◌, Option, Some, None}
use Rattle.uc_values.specs.declared.value.Value.{Value}
use Rattle.uc_values.specs.declared.value.Value.TheVariants.{Int}
use Rattle.uc_values.specs.Operators.{bv_and, bv_or, bv_xor}
use Rattle.uc_operators.specs.declared.bits.BitOperator.{BitOperator}
use Rattle.uc_operators.specs.declared.bits.BitOperator.TheVariants.{And, Or, Xor}

abbrev pub combined : BitOperator → Value → Value → Value
combined And v w = bv_and v w
combined Or v w = bv_or v w
combined Xor v w = bv_xor v w

-- the number is that of the value, or the value is no whole number from 0 to 64
abbrev pub IsCount : Option ℕ → Value → Type 0
IsCount (Some n) v = v ≡ Int (pos n)
IsCount None v = (n : ℕ) → n ≤ 64 → ¬ (v ≡ Int (pos n))
