-- Which bit-vectors the operators take, and sums by their sign.
use Rattle.std.specs.Prelude.{ℕ, ◌+◌, ◌≤◌, ◌<◌, ◌^◌, Bool, if◌then◌else◌, List, [], ◌∷◌}
use Rattle.uc_values.specs.Values.{bits_of, width_in}
use Rattle.uc_values.specs.declared.value.Value.{Value}
use Rattle.uc_meaning.specs.declared.overflow.Wide.{Wide}
use Rattle.uc_meaning.specs.declared.overflow.WideOp.TheVariants.{Add, Sub}
use Rattle.uc_meaning.specs.Operators.{plus, minus}
use Rattle.uc_meaning.specs.Overflow.{operation}

-- A value that is a bit-vector has at most 64 bits, and its number is below the power of 2 of its width. Other values have no bits.
pub record IsWord (v : Value) : Type 0 where
  pub width : width_in v ≤ 64
  pub small : bits_of v < 2 ^ width_in v

-- how many bits some values have together
unfoldable pub total_width : List Value → ℕ
total_width [] = 0
total_width (v ∷ vs) = width_in v + total_width vs

-- a difference behind a minus, else a sum
abbrev pub signed_sum : Bool → Value → Value → Value
signed_sum is_minus v w = if is_minus then minus v w else plus v w

abbrev pub sum_operation : Bool → Value → Value → List Wide
sum_operation is_minus v w = if is_minus then operation Sub v w else operation Add v w
