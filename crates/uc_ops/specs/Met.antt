-- The sums and products that the evaluation of an operation meets, and what it needs of the values of its parts.
use Rattle.std.specs.Prelude.{◌≡◌, ◌≤◌, ◌<◌, ◌+◌, ◌^◌, ℤ, pos, ◌+ℤ◌, List, [], ◌∷◌, map}
use Rattle.uc_values.specs.Values.{number_of, bits_of, width_in}
use Rattle.uc_values.specs.declared.value.Value.{Value}
use Rattle.uc_linear.specs.Exact.{IsNarrow, exact}
use Rattle.uc_linear.specs.declared.exact.Wide.{Wide}
use Rattle.uc_linear.specs.declared.exact.WideOp.TheVariants.{Add as Sum, Mul as Product}
use Rattle.uc_ops.specs.declared.op.Op.{Op}
use Rattle.uc_ops.specs.declared.op.Op.TheVariants.{Symbol, Const, Not, And, Or, Eq, Ite, Add, Scale, Le, BvAdd, BvSub, BvMul, BvNeg, BvAnd, BvOr, BvXor, BvNot, Concat, Extract, ZeroExt, SignExt, Shl, Lshr, Ashr, Slt, Sle, Ult, Ule, App, Select, Store, Diff, MkRec, GetField}
use Rattle.uc_ops.specs.Meaning.{part}

-- the sums that are met from the left, after a first one
abbrev pub met_sums : ℤ → List ℤ → List Wide
met_sums sum [] = []
met_sums sum (z ∷ zs) = record { op = Sum; a = sum; b = z } ∷ met_sums (sum +ℤ z) zs

abbrev pub product_met : ℤ → ℤ → Wide
product_met factor z = record { op = Product; a = factor; b = z }

-- the sums and products that an operation on values meets
abbrev pub met_in : Op → List Value → List Wide
met_in Add values = met_sums (pos 0) (map number_of values)
met_in (Scale factor) values = product_met factor (number_of (part values 0)) ∷ []
met_in other values = []

-- the exact result of the operation has 128 bits with a sign
abbrev pub IsNarrowResult : Wide → Type 0
IsNarrowResult w = IsNarrow (exact w.op w.a w.b)

-- the value is a bit-vector of at most 64 bits, with its number
pub record IsWord (v : Value) : Type 0 where
  pub width : width_in v ≤ 64
  pub small : bits_of v < 2 ^ width_in v

-- two bit-vectors of one width
pub record AreWords (v w : Value) : Type 0 where
  pub first : IsWord v
  pub second : IsWord w
  pub same : width_in w ≡ width_in v

-- what the evaluation of an operation needs of the values of its parts
abbrev pub Sound : Op → List Value → Type 0
Sound BvAdd values = AreWords (part values 0) (part values 1)
Sound BvSub values = AreWords (part values 0) (part values 1)
Sound BvMul values = AreWords (part values 0) (part values 1)
Sound BvAnd values = AreWords (part values 0) (part values 1)
Sound BvOr values = AreWords (part values 0) (part values 1)
Sound BvXor values = AreWords (part values 0) (part values 1)
Sound Shl values = AreWords (part values 0) (part values 1)
Sound Lshr values = AreWords (part values 0) (part values 1)
Sound Ashr values = AreWords (part values 0) (part values 1)
Sound Slt values = AreWords (part values 0) (part values 1)
Sound Sle values = AreWords (part values 0) (part values 1)
Sound BvNeg values = IsWord (part values 0)
Sound BvNot values = IsWord (part values 0)
Sound (ZeroExt more) values = IsWord (part values 0) × (width_in (part values 0) + more ≤ 64)
Sound (SignExt more) values = IsWord (part values 0) × (width_in (part values 0) + more ≤ 64)
Sound (Extract high low) values = (low ≤ high) × (high < 64)
Sound Concat values = IsWord (part values 0) × IsWord (part values 1) × (width_in (part values 0) + width_in (part values 1) ≤ 64)
Sound other values = Unit {0}

-- the operation gives a truth
abbrev pub IsTest : Op → Type 0
IsTest Not = Unit {0}
IsTest And = Unit {0}
IsTest Or = Unit {0}
IsTest Eq = Unit {0}
IsTest Le = Unit {0}
IsTest Slt = Unit {0}
IsTest Sle = Unit {0}
IsTest Ult = Unit {0}
IsTest Ule = Unit {0}
IsTest other = ⊥

-- the operation gives bits of bit-vectors
abbrev pub IsBitwise : Op → Type 0
IsBitwise BvAdd = Unit {0}
IsBitwise BvSub = Unit {0}
IsBitwise BvMul = Unit {0}
IsBitwise BvNeg = Unit {0}
IsBitwise BvAnd = Unit {0}
IsBitwise BvOr = Unit {0}
IsBitwise BvXor = Unit {0}
IsBitwise BvNot = Unit {0}
IsBitwise Concat = Unit {0}
IsBitwise (Extract high low) = Unit {0}
IsBitwise (ZeroExt more) = Unit {0}
IsBitwise (SignExt more) = Unit {0}
IsBitwise Shl = Unit {0}
IsBitwise Lshr = Unit {0}
IsBitwise Ashr = Unit {0}
IsBitwise other = ⊥

-- the operation gives a value that it looks up or puts together
abbrev pub IsBuilt : Op → Type 0
IsBuilt (Symbol number ty) = Unit {0}
IsBuilt (Const ty value) = Unit {0}
IsBuilt Ite = Unit {0}
IsBuilt (App number ty) = Unit {0}
IsBuilt Select = Unit {0}
IsBuilt Store = Unit {0}
IsBuilt Diff = Unit {0}
IsBuilt (MkRec ty) = Unit {0}
IsBuilt (GetField place) = Unit {0}
IsBuilt other = ⊥
