-- Terms that were made.
use Rattle.std.specs.Prelude.{◌≡◌, ℕ, ◌<◌, List, ◌++◌, length, Some, All, Contains}
use Rattle.uc_values.specs.Sizes.{bit_count}
use Rattle.uc_values.specs.declared.ty.Ty.{Ty}
use Rattle.uc_values.specs.declared.ty.Ty.TheVariants.{Bool, Bv}
use Rattle.uc_ops.specs.declared.model.Model.{Model}
use Rattle.uc_ops.specs.declared.op.Op.{Op}
use Rattle.uc_ops.specs.declared.op.Op.TheVariants.{Symbol, App}
use Rattle.uc_ops.specs.declared.node.Node.{Node}
use Rattle.uc_ops.specs.Typing.{type_of, type_at, types_at}
use Rattle.uc_ops.specs.Meaning.{apply}
use Rattle.uc_terms.specs.Tables.{HasOp, WellTyped, parts_at}
use Rattle.uc_terms.specs.Values.{value, values_at}
use Rattle.uc_terms.specs.Subterms.{IsSubterm}

-- the new table goes on from the old one, and is well typed
pub record Grows (old new : List Node) : Type 0 where
  pub more : List Node
  pub is : new ≡ old ++ more
  pub well : WellTyped new

abbrev pub Within : List Node → List ℕ → Type 0
Within nodes ts = All (λ t. t < length nodes) ts

-- the term is the operation on the parts
pub record IsMade (old new : List Node) (t : ℕ) (op : Op) (parts : List ℕ) : Type 0 where
  pub grown : Grows old new
  pub there : t < length new
  pub has : HasOp new t op
  pub on : parts_at new t ≡ parts
  pub ty : type_at new t ≡ type_of op (types_at old parts)
  pub value : (m : Model) → value m new t ≡ apply m op (types_at old parts) (values_at m old parts)

-- a boolean or a bit-vector
pub data IsLowType : Ty → Type 0 where
  truth : IsLowType Bool
  bits : (width : ℕ) → IsLowType (Bv width)

-- the term is a boolean or a bit-vector, no function is applied, and a symbol is listed
pub record IsLowNode (symbols : List ℕ) (nodes : List Node) (k : ℕ) : Type 0 where
  pub typed : IsLowType (type_at nodes k)
  pub no_function : (number : ℕ) (ty : Ty) → ¬ HasOp nodes k (App number ty)
  pub listed : (number : ℕ) (ty : Ty) → HasOp nodes k (Symbol number ty) → Contains symbols k

-- so are all subterms
abbrev pub IsLowered : List ℕ → List Node → ℕ → Type 0
IsLowered symbols nodes t = (k : ℕ) → IsSubterm nodes t k → IsLowNode symbols nodes k

-- where all terms of the old table are lowered, so are those of the new one
abbrev pub KeepsLowered : List Node → List ℕ → List Node → List ℕ → Type 0
KeepsLowered old ts new us = (symbols : List ℕ) → All (IsLowered symbols old) ts → All (IsLowered symbols new) us

-- the operation is no symbol and no function
abbrev pub IsComposed : Op → Type 0
IsComposed (Symbol number ty) = ⊥
IsComposed (App number ty) = ⊥
IsComposed other = Unit {0}

-- the type has a number of bits: it is a boolean, a bit-vector, an enum or a record of these
abbrev pub HasBits : Ty → Type 0
HasBits ty = (n : ℕ) × (bit_count ty ≡ Some n)
