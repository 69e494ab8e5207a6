-- What the operations on bit-vectors give on numbers.
use Rattle.std.specs.Prelude.{◌≡◌, ℕ, ◌+◌, ◌-◌, ◌<◌, ◌≤◌, Bool as Truth, true, false, nat_lt, nat_le, int_lt, int_le, bit_and, bit_or, bit_xor, List}
use Rattle.uc_values.specs.Operators.{added, subtracted, multiplied, negated, complemented, shifted_left, shifted_right, shifted_right_signed, extracted, sign_extended, signed}
use Rattle.uc_values.specs.declared.ty.Ty.{Ty}
use Rattle.uc_ops.specs.declared.op.Op.{Op}
use Rattle.uc_ops.specs.declared.op.Op.TheVariants.{Const, Not, And, Or, Eq, Ite, BvAdd, BvSub, BvMul, BvNeg, BvAnd, BvOr, BvXor, BvNot, Concat, Extract, ZeroExt, SignExt, Shl, Lshr, Ashr, Slt, Sle, Ult, Ule}
use Rattle.uc_ops.specs.Typing.{part_type}
use Rattle.uc_blast.specs.Words.{is_bits}

-- from two bit-vectors of one width to a third
abbrev pub IsPair : Op → Type 0
IsPair BvAdd = Unit {0}
IsPair BvSub = Unit {0}
IsPair BvMul = Unit {0}
IsPair BvAnd = Unit {0}
IsPair BvOr = Unit {0}
IsPair BvXor = Unit {0}
IsPair Shl = Unit {0}
IsPair Lshr = Unit {0}
IsPair Ashr = Unit {0}
IsPair other = ⊥

abbrev pub pair_number : Op → ℕ → ℕ → ℕ → ℕ
pair_number BvAdd width a b = added width a b
pair_number BvSub width a b = subtracted width a b
pair_number BvMul width a b = multiplied width a b
pair_number BvAnd width a b = bit_and a b
pair_number BvOr width a b = bit_or a b
pair_number BvXor width a b = bit_xor a b
pair_number Shl width a b = shifted_left width a b
pair_number Lshr width a b = shifted_right a b
pair_number Ashr width a b = shifted_right_signed width a b
pair_number other width a b = 0

-- a comparison of two bit-vectors of one width
abbrev pub IsOrder : Op → Type 0
IsOrder Slt = Unit {0}
IsOrder Sle = Unit {0}
IsOrder Ult = Unit {0}
IsOrder Ule = Unit {0}
IsOrder other = ⊥

abbrev pub order_truth : Op → ℕ → ℕ → ℕ → Truth
order_truth Slt width a b = int_lt (signed width a) (signed width b)
order_truth Sle width a b = int_le (signed width a) (signed width b)
order_truth Ult width a b = nat_lt a b
order_truth Ule width a b = nat_le a b
order_truth other width a b = false

-- from one bit-vector to another
abbrev pub IsSingle : Op → Type 0
IsSingle BvNeg = Unit {0}
IsSingle BvNot = Unit {0}
IsSingle (Extract high low) = Unit {0}
IsSingle (ZeroExt more) = Unit {0}
IsSingle (SignExt more) = Unit {0}
IsSingle other = ⊥

abbrev pub single_width : Op → ℕ → ℕ
single_width (Extract high low) width = high - low + 1
single_width (ZeroExt more) width = width + more
single_width (SignExt more) width = width + more
single_width other width = width

abbrev pub single_number : Op → ℕ → ℕ → ℕ
single_number BvNeg width a = negated width a
single_number BvNot width a = complemented width a
single_number (Extract high low) width a = extracted high low a
single_number (ZeroExt more) width a = a
single_number (SignExt more) width a = sign_extended width more a
single_number other width a = 0

-- the width suits the operation
abbrev pub SuitsWidth : Op → ℕ → Type 0
SuitsWidth (Extract high low) width = (low ≤ high) × (high < width)
SuitsWidth other width = Unit {0}

-- The operations that have a word, by the types of their parts: those on booleans and bit-vectors.
abbrev pub IsComputed : Op → List Ty → Type 0
IsComputed (Const ty value) types = is_bits ty ≡ true
IsComputed Not types = Unit {0}
IsComputed And types = Unit {0}
IsComputed Or types = Unit {0}
IsComputed Eq types = is_bits (part_type types 0) ≡ true
IsComputed Ite types = is_bits (part_type types 1) ≡ true
IsComputed BvAdd types = Unit {0}
IsComputed BvSub types = Unit {0}
IsComputed BvMul types = Unit {0}
IsComputed BvNeg types = Unit {0}
IsComputed BvAnd types = Unit {0}
IsComputed BvOr types = Unit {0}
IsComputed BvXor types = Unit {0}
IsComputed BvNot types = Unit {0}
IsComputed Concat types = Unit {0}
IsComputed (Extract high low) types = Unit {0}
IsComputed (ZeroExt more) types = Unit {0}
IsComputed (SignExt more) types = Unit {0}
IsComputed Shl types = Unit {0}
IsComputed Lshr types = Unit {0}
IsComputed Ashr types = Unit {0}
IsComputed Slt types = Unit {0}
IsComputed Sle types = Unit {0}
IsComputed Ult types = Unit {0}
IsComputed Ule types = Unit {0}
IsComputed other types = ⊥
