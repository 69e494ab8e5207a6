-- The value of an operation on values.
use Rattle.std.specs.Prelude.{ℕ, ℤ, pos, ◌+ℤ◌, ◌*ℤ◌, int_le, not, if◌then◌else◌, List, [], ◌∷◌, map, slice_get, slice_index_or, Option, Some, None}
use Rattle.std.specs.List.{list_all, list_any}
use Rattle.std.specs.Option.{option_map}
use Rattle.uc_values.specs.Values.{nothing, fits, zero_of, truth_of, number_of, field_of}
use Rattle.uc_values.specs.Arrays.{at, store}
use Rattle.uc_values.specs.Sameness.{same}
use Rattle.uc_values.specs.Tables.{result_of}
use Rattle.uc_values.specs.Operators.{bv_add, bv_sub, bv_mul, bv_neg, bv_not, bv_and, bv_or, bv_xor, bv_shift_left, bv_shift_right, bv_shift_right_signed, bv_concat, bv_extract, bv_zero_extend, bv_sign_extend, bv_less, bv_at_most, bv_less_signed, bv_at_most_signed}
use Rattle.uc_values.specs.declared.ty.Ty.{Ty}
use Rattle.uc_values.specs.declared.value.Value.{Value}
use Rattle.uc_values.specs.declared.value.Value.TheVariants.{Bool as Truth, Int, Rec}
use Rattle.uc_ops.specs.declared.model.Model.{Model}
use Rattle.uc_ops.specs.declared.op.Op.{Op}
use Rattle.uc_ops.specs.declared.op.Op.TheVariants.{Symbol, Const, Not, And, Or, Eq, Ite, Add, Scale, Le, BvAdd, BvSub, BvMul, BvNeg, BvAnd, BvOr, BvXor, BvNot, Concat, Extract, ZeroExt, SignExt, Shl, Lshr, Ashr, Slt, Sle, Ult, Ule, App, Select, Store, Diff, MkRec, GetField}
use Rattle.uc_ops.specs.Typing.{part_type}
use Rattle.uc_ops.specs.Differences.{difference}

-- the value of a part, by its place among the parts
abbrev pub part : List Value → ℕ → Value
part values k = slice_index_or values k nothing

-- the value, or where there is none that fits the type, the one that counts as 0, part by part
abbrev pub fitting : Ty → Option Value → Value
fitting ty None = zero_of ty
fitting ty (Some v) = if fits ty v then v else zero_of ty

abbrev pub total : List ℤ → ℤ
total [] = pos 0
total (z ∷ zs) = z +ℤ total zs

-- The value of an operation on values of these types. What stands for a symbol or a function is told by the model.
abbrev pub apply : Model → Op → List Ty → List Value → Value
apply m (Symbol number ty) types values = fitting ty (slice_get m.symbols number)
apply m (Const ty value) types values = value
apply m Not types values = Truth (not (truth_of (part values 0)))
apply m And types values = Truth (list_all truth_of values)
apply m Or types values = Truth (list_any truth_of values)
apply m Eq types values = Truth (same (part_type types 0) (part values 0) (part values 1))
apply m Ite types values = if truth_of (part values 0) then part values 1 else part values 2
apply m Add types values = Int (total (map number_of values))
apply m (Scale factor) types values = Int (factor *ℤ number_of (part values 0))
apply m Le types values = Truth (int_le (number_of (part values 0)) (number_of (part values 1)))
apply m BvAdd types values = bv_add (part values 0) (part values 1)
apply m BvSub types values = bv_sub (part values 0) (part values 1)
apply m BvMul types values = bv_mul (part values 0) (part values 1)
apply m BvNeg types values = bv_neg (part values 0)
apply m BvAnd types values = bv_and (part values 0) (part values 1)
apply m BvOr types values = bv_or (part values 0) (part values 1)
apply m BvXor types values = bv_xor (part values 0) (part values 1)
apply m BvNot types values = bv_not (part values 0)
apply m Concat types values = bv_concat (part values 0) (part values 1)
apply m (Extract high low) types values = bv_extract high low (part values 0)
apply m (ZeroExt more) types values = bv_zero_extend more (part values 0)
apply m (SignExt more) types values = bv_sign_extend more (part values 0)
apply m Shl types values = bv_shift_left (part values 0) (part values 1)
apply m Lshr types values = bv_shift_right (part values 0) (part values 1)
apply m Ashr types values = bv_shift_right_signed (part values 0) (part values 1)
apply m Slt types values = Truth (bv_less_signed (part values 0) (part values 1))
apply m Sle types values = Truth (bv_at_most_signed (part values 0) (part values 1))
apply m Ult types values = Truth (bv_less (part values 0) (part values 1))
apply m Ule types values = Truth (bv_at_most (part values 0) (part values 1))
apply m (App number ty) types values = fitting ty (option_map (λ table. result_of table values) (slice_get m.tables number))
apply m Select types values = at (part values 0) (part values 1)
apply m Store types values = store (part values 0) (part values 1) (part values 2)
apply m Diff types values = difference (part_type types 0) (part values 0) (part values 1)
apply m (MkRec ty) types values = Rec values
apply m (GetField place) types values = field_of (part values 0) place
