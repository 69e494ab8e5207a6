-- When two nodes are the same but for their types: one operation on the same parts. Constants are told apart by the scalars that they hold.
use Rattle.std.specs.Prelude.{ℕ, ℤ, pos, Bool, true, false, ◌&&◌, nat_eq, if◌then◌else◌, List, [], ◌∷◌, ◌++◌, map, Option, Some, None}
use Rattle.std.specs.Ordering.{int_eq}
use Rattle.std.specs.Hash as fed
use Rattle.std.specs.Hash.{HashWrites}
use Rattle.std.specs.Cmp.Lexicographic.{pointwise}
use Rattle.uc_values.specs.declared.ty.Field.{Field}
use Rattle.uc_values.specs.declared.ty.Ty.{Ty}
use Rattle.uc_values.specs.declared.ty.Ty.TheFolds.{fold-Ty}
use Rattle.uc_values.specs.declared.ty.Ty.TheViews.{out-Ty}
use Rattle.uc_values.specs.declared.ty.Ty.TheOpen.{Ty-F}
use Rattle.uc_values.specs.declared.ty.Ty.TheOpen.Ty-F.{Bool as boolean_type, Int as integer_type, Bv as bits_type, Enum as enum_type, Un as open_type, Rec as record_type, Arr as array_type}
use Rattle.uc_values.specs.declared.value.Value.{Value}
use Rattle.uc_values.specs.declared.value.Value.TheVariants.{Bool as Truth, Int, Bv, Enum, Un}
use Rattle.uc_ops.specs.declared.op.Op.{Op}
use Rattle.uc_ops.specs.declared.op.Op.TheVariants.{Symbol, Const, Not, And, Or, Eq, Ite, Add, Scale, Le, BvAdd, BvSub, BvMul, BvNeg, BvAnd, BvOr, BvXor, BvNot, Concat, Extract, ZeroExt, SignExt, Shl, Lshr, Ashr, Slt, Sle, Ult, Ule, App, Select, Store, Diff, MkRec, GetField}
use Rattle.uc_ops.specs.declared.node.Node.{Node}
use Rattle.uc_ops.specs.declared.equality.Code.{Code}

-- a test of types, which stands for the type that passes it
abbrev pub TypeTest : Type 0
TypeTest = Ty → Bool

abbrev pub equal_fields : List (Field TypeTest) → List (Field Ty) → Bool
equal_fields [] [] = true
equal_fields (f ∷ fs) (g ∷ gs) = nat_eq f.name g.name && (f.ty g.ty && equal_fields fs gs)
equal_fields [] (g ∷ gs) = false
equal_fields (f ∷ fs) [] = false

-- two types are equal, where the types inside the first stand for their tests
abbrev pub equal_form : Ty-F TypeTest → Ty-F Ty → Bool
equal_form boolean_type boolean_type = true
equal_form integer_type integer_type = true
equal_form (bits_type v) (bits_type w) = nat_eq v w
equal_form (enum_type e k) (enum_type f l) = nat_eq e f && nat_eq k l
equal_form (open_type t) (open_type u) = nat_eq t u
equal_form (record_type fs) (record_type gs) = equal_fields fs gs
equal_form (array_type index element) (array_type i e) = index i && element e
equal_form s t = false

abbrev pub equal_types : Ty → Ty → Bool
equal_types = fold-Ty TypeTest (λ s t. equal_form s (out-Ty t))

-- the fields with their tests in place of their types
abbrev pub type_tests : List (Field Ty) → List (Field TypeTest)
type_tests fs = map (λ f. record { name = f.name; ty = equal_types f.ty }) fs

abbrev pub equal_held : Option Ty → Option Ty → Bool
equal_held None None = true
equal_held (Some s) (Some t) = equal_types s t
equal_held None (Some t) = false
equal_held (Some s) None = false

abbrev pub code : ℕ → ℕ → ℕ → ℤ → Code
code kind first second number = record { kind = kind; first = first; second = second; number = number }

-- a constant by its kind and numbers; a record and an array are no constants, and are not told apart
abbrev pub constant_code : Value → Code
constant_code (Truth b) = code 1 (if b then 1 else 0) 0 (pos 0)
constant_code (Int z) = code 2 0 0 z
constant_code (Bv width n) = code 3 width 0 (pos n)
constant_code (Enum e k) = code 4 e k (pos 0)
constant_code (Un t n) = code 5 t 0 (pos n)
constant_code other = code 6 0 0 (pos 0)

-- an operation by its kind and numbers
abbrev pub op_code : Op → Code
op_code (Symbol number ty) = code 0 number 0 (pos 0)
op_code (Const ty value) = constant_code value
op_code Not = code 7 0 0 (pos 0)
op_code And = code 8 0 0 (pos 0)
op_code Or = code 9 0 0 (pos 0)
op_code Eq = code 10 0 0 (pos 0)
op_code Ite = code 11 0 0 (pos 0)
op_code Add = code 12 0 0 (pos 0)
op_code (Scale factor) = code 13 0 0 factor
op_code Le = code 14 0 0 (pos 0)
op_code BvAdd = code 15 0 0 (pos 0)
op_code BvSub = code 16 0 0 (pos 0)
op_code BvMul = code 17 0 0 (pos 0)
op_code BvNeg = code 18 0 0 (pos 0)
op_code BvAnd = code 19 0 0 (pos 0)
op_code BvOr = code 20 0 0 (pos 0)
op_code BvXor = code 21 0 0 (pos 0)
op_code BvNot = code 22 0 0 (pos 0)
op_code Concat = code 23 0 0 (pos 0)
op_code (Extract high low) = code 24 high low (pos 0)
op_code (ZeroExt more) = code 25 more 0 (pos 0)
op_code (SignExt more) = code 26 more 0 (pos 0)
op_code Shl = code 27 0 0 (pos 0)
op_code Lshr = code 28 0 0 (pos 0)
op_code Ashr = code 29 0 0 (pos 0)
op_code Slt = code 30 0 0 (pos 0)
op_code Sle = code 31 0 0 (pos 0)
op_code Ult = code 32 0 0 (pos 0)
op_code Ule = code 33 0 0 (pos 0)
op_code (App number ty) = code 34 number 0 (pos 0)
op_code Select = code 35 0 0 (pos 0)
op_code Store = code 36 0 0 (pos 0)
op_code Diff = code 37 0 0 (pos 0)
op_code (MkRec ty) = code 38 0 0 (pos 0)
op_code (GetField place) = code 39 place 0 (pos 0)

-- the type that an operation holds
abbrev pub held_type : Op → Option Ty
held_type (Symbol number ty) = Some ty
held_type (Const ty value) = Some ty
held_type (App number ty) = Some ty
held_type (MkRec ty) = Some ty
held_type other = None

abbrev pub equal_codes : Code → Code → Bool
equal_codes a b = nat_eq a.kind b.kind && (nat_eq a.first b.first && (nat_eq a.second b.second && int_eq a.number b.number))

-- one operation on the same parts
abbrev pub equal_nodes : Node → Node → Bool
equal_nodes a b = equal_codes (op_code a.op) (op_code b.op) && (equal_held (held_type a.op) (held_type b.op) && pointwise nat_eq a.parts b.parts)

-- what a node is hashed by: the code of its operation, and its parts
abbrev pub key_input : Code → List ℕ → HashWrites
key_input c parts = fed.u8 c.kind ++ fed.u32 c.first ++ fed.u32 c.second ++ fed.i128 c.number ++ fed.slice fed.u32 parts

abbrev pub hash_input : Node → HashWrites
hash_input n = key_input (op_code n.op) n.parts
