-- Operations on typed expressions, where they suit the types.
use Rattle.std.specs.Prelude.{ℕ, ◌+◌, ◌-◌, Bool as Truth, true, false, ◌&&◌, nat_eq, nat_le, nat_lt, if◌then◌else◌, List, [], ◌∷◌, map, Option, Some, None, slice_get}
use Rattle.std.specs.List.{list_all, position_from}
use Rattle.std.specs.Option.{option_map, option_and_then}
use Rattle.uc_syntax.specs.declared.expression.SumSign.{SumSign}
use Rattle.uc_syntax.specs.declared.expression.UnaryOperator.{UnaryOperator}
use Rattle.uc_syntax.specs.declared.expression.UnaryOperator.TheVariants.{Not as not_sign, Negate, Complement}
use Rattle.uc_syntax.specs.declared.expression.Comparison.{Comparison}
use Rattle.uc_syntax.specs.declared.expression.Comparison.TheVariants.{Equal as equal_sign, Unequal, Less, AtMost, Greater, AtLeast, LessUnsigned, AtMostUnsigned, GreaterUnsigned, AtLeastUnsigned}
use Rattle.uc_syntax.specs.declared.expression.BitFunction.{BitFunction}
use Rattle.uc_syntax.specs.declared.expression.BitFunction.TheVariants.{ZeroExtend, SignExtend, ShiftLeft, ShiftRight, ShiftRightSigned}
use Rattle.uc_values.specs.declared.ty.Field.{Field}
use Rattle.uc_values.specs.declared.ty.Ty.{Ty}
use Rattle.uc_values.specs.declared.ty.Ty.TheVariants.{Bool, Bv}
use Rattle.uc_ops.specs.declared.op.Op.{Op}
use Rattle.uc_ops.specs.declared.op.Op.TheVariants.{Not, Or, Eq, Ite, BvAdd, BvSub, BvMul, BvNeg, BvNot, BvAnd, BvOr, BvXor, Concat, Extract, ZeroExt, SignExt, Shl, Lshr, Ashr, Slt, Sle, Ult, Ule, GetField}
use Rattle.uc_ops.specs.Typing.{fields_of}
use Rattle.uc_ops.specs.Equality.{equal_types}
use Rattle.uc_flat.specs.declared.expression.Expression.{Expression}
use Rattle.uc_flat.specs.declared.expression.Expression.TheVariants.{Apply}
use Rattle.uc_flat_expressions.specs.declared.typed.TypedExpression.{TypedExpression}
use Rattle.uc_flat_expressions.specs.declared.building.Chain.{Chain}
use Rattle.uc_flat_expressions.specs.declared.building.Chain.TheVariants.{Equal, Or as OrBits, Xor, And as AndBits, Concat as Joined, Add, Subtract, Multiply}
use Rattle.uc_flat_expressions.specs.Types.{is_boolean, is_bits, are_same_bits}

abbrev pub expressions_in : List TypedExpression → List Expression
expressions_in ts = map (λ t. t.expression) ts

-- an operation on parts, which gives a type
abbrev pub operation : Op → Ty → List TypedExpression → TypedExpression
operation op ty ts = record { expression = Apply op (expressions_in ts); ty = ty; number = None }

abbrev pub constant : Op → Ty → TypedExpression
constant op ty = operation op ty []

-- there are parts, and all are truth values
abbrev pub are_truths : List TypedExpression → Truth
are_truths [] = false
are_truths (t ∷ ts) = is_boolean t.ty && list_all (λ u. is_boolean u.ty) ts

abbrev pub negation : TypedExpression → TypedExpression
negation t = operation Not Bool (t ∷ [])

-- an operation on truth values
abbrev pub junction : Op → List TypedExpression → Option TypedExpression
junction op ts = if are_truths ts then Some (operation op Bool ts) else None

-- implications are grouped from the right: some part but the last is false, or the last is true
unfoldable pub implied_parts : List TypedExpression → List TypedExpression
implied_parts [] = []
implied_parts (t ∷ []) = t ∷ []
implied_parts (t ∷ (u ∷ us)) = negation t ∷ implied_parts (u ∷ us)

abbrev pub implication : List TypedExpression → Option TypedExpression
implication ts = if are_truths ts then Some (operation Or Bool (implied_parts ts)) else None

-- ---- chains from the left

abbrev pub chain_op : Chain → Op
chain_op Equal = Eq
chain_op OrBits = BvOr
chain_op Xor = BvXor
chain_op AndBits = BvAnd
chain_op Joined = Concat
chain_op Add = BvAdd
chain_op Subtract = BvSub
chain_op Multiply = BvMul

-- a chain begins with a truth value, or with bits
abbrev pub starts : Chain → Ty → Truth
starts Equal ty = is_boolean ty
starts kind ty = is_bits ty

-- bits behind each other are at most 64 bits
abbrev pub concat_type : ℕ → ℕ → Option Ty
concat_type high low = if nat_le (high + low) 64 then Some (Bv (high + low)) else None

-- truth values are compared, bits of all widths put behind each other, and bits of one width taken otherwise
abbrev pub bits_type : Chain → ℕ → ℕ → Option Ty
bits_type Equal v w = None
bits_type Joined v w = concat_type v w
bits_type kind v w = if nat_eq v w then Some (Bv v) else None

abbrev pub truth_type : Chain → Option Ty
truth_type Equal = Some Bool
truth_type kind = None

abbrev pub joined_type : Chain → Ty → Ty → Option Ty
joined_type kind Bool Bool = truth_type kind
joined_type kind (Bv v) (Bv w) = bits_type kind v w
joined_type kind a b = None

abbrev pub joined : Chain → TypedExpression → TypedExpression → Option TypedExpression
joined kind a b = option_map (λ ty. operation (chain_op kind) ty (a ∷ b ∷ [])) (joined_type kind a.ty b.ty)

unfoldable pub chain_from : Chain → TypedExpression → List TypedExpression → Option TypedExpression
chain_from kind a [] = Some a
chain_from kind a (b ∷ bs) = option_and_then (λ c. chain_from kind c bs) (joined kind a b)

abbrev pub chain : Chain → List TypedExpression → Option TypedExpression
chain kind [] = None
chain kind (a ∷ bs) = if starts kind a.ty then chain_from kind a bs else None

abbrev pub sign_chain : SumSign → Chain
sign_chain s = if s.is_minus then Subtract else Add

-- a sum, with the sign before each part after the first
unfoldable pub sum_from : TypedExpression → List SumSign → List TypedExpression → Option TypedExpression
sum_from a ss [] = Some a
sum_from a [] (b ∷ bs) = Some a
sum_from a (s ∷ ss) (b ∷ bs) = option_and_then (λ c. sum_from c ss bs) (joined (sign_chain s) a b)

abbrev pub sum : List SumSign → List TypedExpression → Option TypedExpression
sum ss [] = None
sum ss (a ∷ bs) = if is_bits a.ty then sum_from a ss bs else None

-- ---- one or two parts

abbrev pub bits_only : Op → TypedExpression → Option TypedExpression
bits_only op a = if is_bits a.ty then Some (operation op a.ty (a ∷ [])) else None

abbrev pub unary_of : UnaryOperator → TypedExpression → Option TypedExpression
unary_of not_sign a = if is_boolean a.ty then Some (negation a) else None
unary_of Negate a = bits_only BvNeg a
unary_of Complement a = bits_only BvNot a

-- an order on bits of one width
abbrev pub ordered : Op → TypedExpression → TypedExpression → Option TypedExpression
ordered op a b = if are_same_bits a.ty b.ty then Some (operation op Bool (a ∷ b ∷ [])) else None

abbrev pub equality : TypedExpression → TypedExpression → Option TypedExpression
equality a b = if equal_types a.ty b.ty then Some (operation Eq Bool (a ∷ b ∷ [])) else None

abbrev pub inequality : TypedExpression → TypedExpression → Option TypedExpression
inequality a b = option_map negation (equality a b)

abbrev pub comparison : Comparison → TypedExpression → TypedExpression → Option TypedExpression
comparison equal_sign a b = equality a b
comparison Unequal a b = inequality a b
comparison Less a b = ordered Slt a b
comparison AtMost a b = ordered Sle a b
comparison Greater a b = ordered Slt b a
comparison AtLeast a b = ordered Sle b a
comparison LessUnsigned a b = ordered Ult a b
comparison AtMostUnsigned a b = ordered Ule a b
comparison GreaterUnsigned a b = ordered Ult b a
comparison AtLeastUnsigned a b = ordered Ule b a

-- one of two values of one type
abbrev pub choice : TypedExpression → TypedExpression → TypedExpression → Option TypedExpression
choice c a b = if is_boolean c.ty && equal_types a.ty b.ty then Some (operation Ite a.ty (c ∷ a ∷ b ∷ [])) else None

-- ---- selections

abbrev pub field_at : TypedExpression → ℕ → Option (Field Ty) → Option TypedExpression
field_at a k None = None
field_at a k (Some f) = Some (operation (GetField k) f.ty (a ∷ []))

-- a field of a record, by its first place
abbrev pub field_selected : TypedExpression → ℕ → Option TypedExpression
field_selected a name =
    option_and_then (λ k. field_at a k (slice_get (fields_of a.ty) k)) (position_from (λ d. nat_eq d.name name) 0 (fields_of a.ty))

abbrev pub is_range : ℕ → ℕ → Ty → Truth
is_range high low (Bv width) = nat_le low high && nat_lt high width
is_range high low other = false

abbrev pub range_selected : TypedExpression → ℕ → ℕ → Option TypedExpression
range_selected a high low = if is_range high low a.ty then Some (operation (Extract high low) (Bv (high - low + 1)) (a ∷ [])) else None

-- ---- functions on bits

abbrev pub extension_op : Truth → ℕ → Op
extension_op false more = ZeroExt more
extension_op true more = SignExt more

abbrev pub extended : Truth → ℕ → Ty → TypedExpression → Option TypedExpression
extended signed more (Bv width) a = option_map (λ ty. operation (extension_op signed more) ty (a ∷ [])) (concat_type width more)
extended signed more other a = None

-- more bits in front, where their number is a literal
abbrev pub extension : Truth → Option ℕ → TypedExpression → Option TypedExpression
extension signed None a = None
extension signed (Some more) a = extended signed more a.ty a

-- a shift by bits of the same width
abbrev pub shift : Op → TypedExpression → TypedExpression → Option TypedExpression
shift op amount a = if are_same_bits amount.ty a.ty then Some (operation op a.ty (a ∷ amount ∷ [])) else None

abbrev pub on_bits : BitFunction → TypedExpression → TypedExpression → Option TypedExpression
on_bits ZeroExtend n a = extension false n.number a
on_bits SignExtend n a = extension true n.number a
on_bits ShiftLeft n a = shift Shl n a
on_bits ShiftRight n a = shift Lshr n a
on_bits ShiftRightSigned n a = shift Ashr n a
