-- The steps of lowering: what each makes of lowered parts.
use Rattle.std.specs.Prelude.{◌≡◌, ℕ, ◌<◌, cond, List, [], ◌∷◌, ◌++◌, map, length, take, slice_index_or, All}
use Rattle.std.specs.List.{list_all}
use Rattle.uc_values.specs.Values.{truth_of}
use Rattle.uc_values.specs.declared.ty.Ty.{Ty}
use Rattle.uc_values.specs.declared.ty.Ty.TheVariants.{Bool, Bv, Enum}
use Rattle.uc_values.specs.declared.value.Value.TheVariants.{Bool as Truth}
use Rattle.uc_ops.specs.declared.model.Model.{Model}
use Rattle.uc_ops.specs.declared.op.Op.{Op}
use Rattle.uc_ops.specs.declared.op.Op.TheVariants.{Symbol, Not, And, Or, Add, Scale, Le, BvAdd, BvSub, BvMul, BvNeg, BvAnd, BvOr, BvXor, BvNot, Concat, Extract, ZeroExt, SignExt, Shl, Lshr, Ashr, Slt, Sle, Ult, Ule, App, Select, Store, Diff}
use Rattle.uc_ops.specs.declared.node.Node.{Node}
use Rattle.uc_ops.specs.Typing.{type_at, types_at}
use Rattle.uc_terms.specs.Tables.{HasOp, parts_at}
use Rattle.uc_terms.specs.Values.{value, values_at}
use Rattle.uc_lower.specs.Fields.{low_types, coded, all_same}
use Rattle.uc_lower.specs.Made.{Grows, Within, IsLowered, KeepsLowered, HasBits}

-- the term is true where all the tests are
pub record IsConjunction (old new : List Node) (tests : List ℕ) (t : ℕ) : Type 0 where
  pub there : t < length new
  pub ty : type_at new t ≡ Bool
  pub value : (n : Model) → value n new t ≡ Truth (list_all truth_of (values_at n old tests))
  pub lowered : KeepsLowered old tests new (t ∷ [])

-- the tests say of the first fields that each two are the same
pub record AreTests (old now : List Node) (left right : List ℕ) (count : ℕ) (tests : List ℕ) : Type 0 where
  pub grown : Grows old now
  pub within : Within now tests
  pub booleans : All (λ t. type_at now t ≡ Bool) tests
  pub values : (n : Model) → list_all truth_of (values_at n now tests) ≡ all_same (types_at old (take count left)) (values_at n old (take count left)) (values_at n old (take count right))
  pub lowered : KeepsLowered old (left ++ right) now tests

-- the term is true where each two fields are the same
pub record IsEquality (old new : List Node) (left right : List ℕ) (t : ℕ) : Type 0 where
  pub there : t < length new
  pub ty : type_at new t ≡ Bool
  pub value : (n : Model) → value n new t ≡ Truth (all_same (types_at old left) (values_at n old left) (values_at n old right))
  pub lowered : KeepsLowered old (left ++ right) new (t ∷ [])

-- the terms are the first fields of one or the other, as the condition says
pub record AreChosen (old now : List Node) (condition : ℕ) (left right : List ℕ) (count : ℕ) (terms : List ℕ) : Type 0 where
  pub grown : Grows old now
  pub within : Within now terms
  pub types : types_at now terms ≡ types_at old (take count left)
  pub values : (n : Model) → values_at n now terms ≡ cond (truth_of (value n old condition)) (values_at n old (take count left)) (values_at n old (take count right))
  pub lowered : KeepsLowered old (condition ∷ left ++ right) now terms

-- what stands for a term: the terms of its innermost fields
abbrev pub lows : List (List ℕ) → ℕ → List ℕ
lows lowered p = slice_index_or lowered p []

-- what stands for a part, by its place among the parts
abbrev pub part_lows : List (List ℕ) → List ℕ → ℕ → List ℕ
part_lows lowered parts k = slice_index_or (map (lows lowered) parts) k []

-- what stands for the parts, one after another
abbrev pub joined_lows : List (List ℕ) → List ℕ → List ℕ
joined_lows lowered [] = []
joined_lows lowered (p ∷ ps) = lows lowered p ++ joined_lows lowered ps

-- the terms have the types of what stands for the term
pub record IsLow (nodes : List Node) (j : ℕ) (us : List ℕ) : Type 0 where
  pub within : Within nodes us
  pub types : types_at nodes us ≡ low_types (type_at nodes j)

-- they have the values of what stands for its value, where it has its value under the one model and they have theirs under the other
abbrev pub Means : Model → Model → List Node → ℕ → List ℕ → Type 0
Means m n nodes j us = values_at n nodes us ≡ coded (type_at nodes j) (value m nodes j)

-- the operation is none on integers, functions or arrays, and no symbol
abbrev pub IsInner : Op → Type 0
IsInner (Symbol number ty) = ⊥
IsInner Add = ⊥
IsInner (Scale factor) = ⊥
IsInner Le = ⊥
IsInner (App number ty) = ⊥
IsInner Select = ⊥
IsInner Store = ⊥
IsInner Diff = ⊥
IsInner other = Unit {0}

-- the operation gives a boolean or a bit-vector of booleans or bit-vectors
abbrev pub IsPlain : Op → Type 0
IsPlain Not = Unit {0}
IsPlain And = Unit {0}
IsPlain Or = Unit {0}
IsPlain BvAdd = Unit {0}
IsPlain BvSub = Unit {0}
IsPlain BvMul = Unit {0}
IsPlain BvNeg = Unit {0}
IsPlain BvAnd = Unit {0}
IsPlain BvOr = Unit {0}
IsPlain BvXor = Unit {0}
IsPlain BvNot = Unit {0}
IsPlain Concat = Unit {0}
IsPlain (Extract high low) = Unit {0}
IsPlain (ZeroExt more) = Unit {0}
IsPlain (SignExt more) = Unit {0}
IsPlain Shl = Unit {0}
IsPlain Lshr = Unit {0}
IsPlain Ashr = Unit {0}
IsPlain Slt = Unit {0}
IsPlain Sle = Unit {0}
IsPlain Ult = Unit {0}
IsPlain Ule = Unit {0}
IsPlain other = ⊥

-- the type is that of a constant with a number of bits
abbrev pub IsBitsType : Ty → Type 0
IsBitsType Bool = Unit {0}
IsBitsType (Bv width) = Unit {0}
IsBitsType (Enum number labels) = Unit {0}
IsBitsType other = ⊥

-- the term has the operation, and its parts are lowered
pub record IsReady (nodes : List Node) (lowered : List (List ℕ)) (t : ℕ) (op : Op) : Type 0 where
  pub there : t < length nodes
  pub has : HasOp nodes t op
  pub own_bits : HasBits (type_at nodes t)
  pub bits : All (λ p. HasBits (type_at nodes p)) (parts_at nodes t)
  pub low : All (λ p. IsLow nodes p (lows lowered p)) (parts_at nodes t)

-- the same, whatever its operation is
pub record IsLowerable (nodes : List Node) (lowered : List (List ℕ)) (t : ℕ) : Type 0 where
  pub inner : (op : Op) → HasOp nodes t op → IsInner op
  pub ready : (op : Op) → HasOp nodes t op → IsReady nodes lowered t op

-- the terms stand for the term, wherever those of its parts stand for the parts
pub record IsLowOf (old new : List Node) (lowered : List (List ℕ)) (j : ℕ) (us : List ℕ) : Type 0 where
  pub low : IsLow new j us
  pub means : (m n : Model) → All (λ p. Means m n old p (lows lowered p)) (parts_at old j) → Means m n new j us
  pub stays : (symbols : List ℕ) → All (λ p. All (IsLowered symbols old) (lows lowered p)) (parts_at old j) → All (IsLowered symbols new) us
