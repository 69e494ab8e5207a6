-- What lowering gives: a term with the models of the given one, by a map.
use Rattle.std.specs.Prelude.{◌≡◌, ℕ, ◌<◌, nat_eq, if◌then◌else◌, List, [], ◌∷◌, map, length, All, Contains}
use Rattle.uc_values.specs.declared.ty.Ty.{Ty}
use Rattle.uc_values.specs.declared.ty.Ty.TheVariants.{Bool}
use Rattle.uc_ops.specs.declared.model.Model.{Model}
use Rattle.uc_ops.specs.declared.op.Op.TheVariants.{Symbol, App}
use Rattle.uc_ops.specs.declared.node.Node.{Node}
use Rattle.uc_ops.specs.Typing.{type_at, types_at}
use Rattle.uc_terms.specs.Tables.{HasOp}
use Rattle.uc_terms.specs.Values.{value, values_at}
use Rattle.uc_terms.specs.Subterms.{IsSubterm}
use Rattle.uc_terms.specs.Laws.{IsModelOf}
use Rattle.uc_lower.specs.Fields.{low_types, coded}
use Rattle.uc_lower.specs.Made.{HasBits, IsLowType}

-- a symbol of a term and a term that stands for one of its innermost fields
abbrev pub Pair : Type 0
Pair = ℕ × ℕ

-- the terms that stand for a symbol by the map, in order
abbrev pub stand_ins : List Pair → ℕ → List ℕ
stand_ins [] k = []
stand_ins (p ∷ ps) k = if nat_eq p.0 k then p.1 ∷ stand_ins ps k else stand_ins ps k

-- all terms that stand for a field
abbrev pub seconds : List Pair → List ℕ
seconds pairs = map (λ (p : Pair). p.1) pairs

-- the term is a symbol
pub record IsSymbol (nodes : List Node) (k : ℕ) : Type 0 where
  pub number : ℕ
  pub ty : Ty
  pub has : HasOp nodes k (Symbol number ty)

-- the terms of finitely many values: each subterm has a type with a number of bits, and no function is applied
pub record IsFiniteTerm (nodes : List Node) (t : ℕ) : Type 0 where
  pub bits : (k : ℕ) → IsSubterm nodes t k → HasBits (type_at nodes k)
  pub no_function : (k number : ℕ) (ty : Ty) → IsSubterm nodes t k → ¬ HasOp nodes k (App number ty)

-- Two models agree by the map: what stands for a symbol of t has under the second model the values of the innermost fields that the
-- symbol has under the first, a label being told by its bits.
abbrev pub Agree : Model → Model → List Node → ℕ → List Node → List Pair → Type 0
Agree m n old t new pairs = (k : ℕ) → IsSubterm old t k → IsSymbol old k → values_at n new (stand_ins pairs k) ≡ coded (type_at old k) (value m old k)

-- a model of the one term has a model of the other that agrees with it
pub record Partner (m n : Model) (old : List Node) (t : ℕ) (new : List Node) (u : ℕ) (pairs : List Pair) : Type 0 where
  pub agrees : Agree m n old t new pairs
  pub old_model : IsModelOf m old t
  pub new_model : IsModelOf n new u

-- the models of t in the old table are those of u in the new one, by the map; models that agree give both terms one value
pub record CorrespondBy (old : List Node) (t : ℕ) (new : List Node) (u : ℕ) (pairs : List Pair) : Type 0 where
  pub there : (m : Model) → IsModelOf m old t → (n : Model) × Partner m n old t new u pairs
  pub back : (n : Model) → IsModelOf n new u → (m : Model) × Partner m n old t new u pairs
  pub same : (m n : Model) → Agree m n old t new pairs → value n new u ≡ value m old t

-- the map speaks of the symbols of t and of symbols that stand for them
pub record IsPairOf (old : List Node) (t : ℕ) (new : List Node) (p : Pair) : Type 0 where
  pub below : IsSubterm old t p.0
  pub first : IsSymbol old p.0
  pub second : IsSymbol new p.1

-- the map has for each symbol of t one symbol for each innermost field, in order, and nothing else; the symbols of u are among these
pub record IsMapOf (old : List Node) (t : ℕ) (new : List Node) (u : ℕ) (pairs : List Pair) : Type 0 where
  pub complete : (k : ℕ) → IsSubterm old t k → IsSymbol old k → types_at new (stand_ins pairs k) ≡ low_types (type_at old k)
  pub only : All (IsPairOf old t new) pairs
  pub listed : (k : ℕ) → IsSubterm new u k → IsSymbol new k → Contains (seconds pairs) k

-- the term is boolean, every subterm is a boolean or a bit-vector, and no function is applied
pub record IsLoweredTerm (nodes : List Node) (u : ℕ) : Type 0 where
  pub there : u < length nodes
  pub boolean : type_at nodes u ≡ Bool
  pub types : (k : ℕ) → IsSubterm nodes u k → IsLowType (type_at nodes k)
  pub no_function : (k number : ℕ) (ty : Ty) → IsSubterm nodes u k → ¬ HasOp nodes k (App number ty)
