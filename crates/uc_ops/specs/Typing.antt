-- Which types suit an operation, and the type of what it gives.
use Rattle.std.specs.Prelude.{◌≡◌, ◌≢◌, ℕ, ◌+◌, ◌-◌, ◌<◌, ◌≤◌, Bool as Truth, true, false, IsTrue, List, [], ◌∷◌, map, length, slice_get, Option, Some, None, All}
use Rattle.uc_values.specs.Values.{fits}
use Rattle.uc_values.specs.Types.{is_valid, is_scalar, field_types}
use Rattle.uc_values.specs.declared.ty.Field.{Field}
use Rattle.uc_values.specs.declared.ty.Ty.{Ty}
use Rattle.uc_values.specs.declared.ty.Ty.TheVariants.{Bool, Int, Bv, Enum, Rec, Arr}
use Rattle.uc_values.specs.declared.ty.Ty.TheViews.{out-Ty}
use Rattle.uc_values.specs.declared.ty.Ty.TheOpen.{Ty-F}
use Rattle.uc_values.specs.declared.ty.Ty.TheOpen.Ty-F.{Rec as record_type, Arr as array_type}
use Rattle.uc_ops.specs.declared.op.Op.{Op}
use Rattle.uc_ops.specs.declared.op.Op.TheVariants.{Symbol, Const, Not, And, Or, Eq, Ite, Add, Scale, Le, BvAdd, BvSub, BvMul, BvNeg, BvAnd, BvOr, BvXor, BvNot, Concat, Extract, ZeroExt, SignExt, Shl, Lshr, Ashr, Slt, Sle, Ult, Ule, App, Select, Store, Diff, MkRec, GetField}
use Rattle.uc_ops.specs.declared.node.Node.{Node}

-- the types of constants: booleans, integers, bit-vectors and enums
abbrev pub is_constant : Ty → Truth
is_constant Bool = true
is_constant Int = true
is_constant (Bv width) = true
is_constant (Enum number labels) = true
is_constant other = false

abbrev pub Valid : Ty → Type 0
Valid ty = IsTrue (is_valid ty)

abbrev pub AllValid : List Ty → Type 0
AllValid types = All Valid types

-- no parts
abbrev pub Leaf : List Ty → Type 0
Leaf types = types ≡ []

-- one or more parts, all of one type
abbrev pub Some_of : Ty → List Ty → Type 0
Some_of ty types = (types ≢ []) × All (λ t. t ≡ ty) types

-- two parts of one type
abbrev pub Pair_of_one : List Ty → Type 0
Pair_of_one types = (ty : Ty) × (types ≡ ty ∷ ty ∷ [])

-- a bit-vector, and two bit-vectors of one width
abbrev pub Bits : List Ty → Type 0
Bits types = (width : ℕ) × (types ≡ Bv width ∷ [])

abbrev pub Pair_of_bits : List Ty → Type 0
Pair_of_bits types = (width : ℕ) × (types ≡ Bv width ∷ Bv width ∷ [])

-- a bit-vector that stays within 64 bits where so many are added
abbrev pub Extends : ℕ → List Ty → Type 0
Extends more types = (width : ℕ) × (types ≡ Bv width ∷ []) × (width + more ≤ 64)

-- parts of these types suit the operation
abbrev pub Suits : Op → List Ty → Type 0
Suits (Symbol number ty) types = Leaf types × Valid ty
Suits (Const ty value) types = Leaf types × Valid ty × IsTrue (is_constant ty) × IsTrue (fits ty value)
Suits Not types = types ≡ Bool ∷ []
Suits And types = Some_of Bool types
Suits Or types = Some_of Bool types
Suits Eq types = Pair_of_one types
Suits Ite types = (ty : Ty) × (types ≡ Bool ∷ ty ∷ ty ∷ [])
Suits Add types = Some_of Int types
Suits (Scale factor) types = types ≡ Int ∷ []
Suits Le types = types ≡ Int ∷ Int ∷ []
Suits BvAdd types = Pair_of_bits types
Suits BvSub types = Pair_of_bits types
Suits BvMul types = Pair_of_bits types
Suits BvNeg types = Bits types
Suits BvAnd types = Pair_of_bits types
Suits BvOr types = Pair_of_bits types
Suits BvXor types = Pair_of_bits types
Suits BvNot types = Bits types
Suits Concat types = (high : ℕ) × (low : ℕ) × (types ≡ Bv high ∷ Bv low ∷ []) × (high + low ≤ 64)
Suits (Extract high low) types = (width : ℕ) × (types ≡ Bv width ∷ []) × (low ≤ high) × (high < width)
Suits (ZeroExt more) types = Extends more types
Suits (SignExt more) types = Extends more types
Suits Shl types = Pair_of_bits types
Suits Lshr types = Pair_of_bits types
Suits Ashr types = Pair_of_bits types
Suits Slt types = Pair_of_bits types
Suits Sle types = Pair_of_bits types
Suits Ult types = Pair_of_bits types
Suits Ule types = Pair_of_bits types
Suits (App number ty) types = All (λ t. IsTrue (is_scalar t)) types × Valid ty × IsTrue (is_scalar ty)
Suits Select types = (index : Ty) × (element : Ty) × (types ≡ Arr index element ∷ index ∷ [])
Suits Store types = (index : Ty) × (element : Ty) × (types ≡ Arr index element ∷ index ∷ element ∷ [])
Suits Diff types = (index : Ty) × (element : Ty) × (types ≡ Arr index element ∷ Arr index element ∷ [])
Suits (MkRec ty) types = (fields : List (Field Ty)) × (ty ≡ Rec fields) × (types ≡ field_types fields) × Valid ty
Suits (GetField place) types = (fields : List (Field Ty)) × (types ≡ Rec fields ∷ []) × (place < length fields)

-- the fields of a record, in their order
abbrev pub fields_form : Ty-F Ty → List (Field Ty)
fields_form (record_type fields) = fields
fields_form other = []

abbrev pub fields_of : Ty → List (Field Ty)
fields_of ty = fields_form (out-Ty ty)

-- the types of an array's indices and of its elements
abbrev pub index_form : Ty-F Ty → Ty
index_form (array_type index element) = index
index_form other = Bool

abbrev pub index_of : Ty → Ty
index_of ty = index_form (out-Ty ty)

abbrev pub element_form : Ty-F Ty → Ty
element_form (array_type index element) = element
element_form other = Bool

abbrev pub element_of : Ty → Ty
element_of ty = element_form (out-Ty ty)

abbrev pub width_of : Ty → ℕ
width_of (Bv width) = width
width_of other = 0

abbrev pub type_or : Option Ty → Ty
type_or None = Bool
type_or (Some ty) = ty

-- the type of a part, by its place among the parts
abbrev pub part_type : List Ty → ℕ → Ty
part_type types k = type_or (slice_get types k)

-- the type of what an operation gives, where the types suit
abbrev pub type_of : Op → List Ty → Ty
type_of (Symbol number ty) types = ty
type_of (Const ty value) types = ty
type_of Ite types = part_type types 1
type_of Add types = Int
type_of (Scale factor) types = Int
type_of BvAdd types = part_type types 0
type_of BvSub types = part_type types 0
type_of BvMul types = part_type types 0
type_of BvNeg types = part_type types 0
type_of BvAnd types = part_type types 0
type_of BvOr types = part_type types 0
type_of BvXor types = part_type types 0
type_of BvNot types = part_type types 0
type_of Concat types = Bv (width_of (part_type types 0) + width_of (part_type types 1))
type_of (Extract high low) types = Bv (high - low + 1)
type_of (ZeroExt more) types = Bv (width_of (part_type types 0) + more)
type_of (SignExt more) types = Bv (width_of (part_type types 0) + more)
type_of Shl types = part_type types 0
type_of Lshr types = part_type types 0
type_of Ashr types = part_type types 0
type_of (App number ty) types = ty
type_of Select types = element_of (part_type types 0)
type_of Store types = part_type types 0
type_of Diff types = index_of (part_type types 0)
type_of (MkRec ty) types = ty
type_of (GetField place) types = part_type (field_types (fields_of (part_type types 0))) place
type_of other types = Bool

abbrev pub type_in : Option Node → Ty
type_in None = Bool
type_in (Some node) = node.ty

-- the type of a term, by its number
unfoldable pub type_at : List Node → ℕ → Ty
type_at nodes t = type_in (slice_get nodes t)

-- the types of the parts of a node
abbrev pub types_at : List Node → List ℕ → List Ty
types_at nodes parts = map (type_at nodes) parts
