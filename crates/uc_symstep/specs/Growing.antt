-- Tables of terms that grow, terms of cells, and new terms.
use Rattle.std.specs.Prelude.{◌≡◌, ℕ, ◌<◌, List, ◌++◌, length, map, All}
use Rattle.uc_values.specs.declared.ty.Ty.{Ty}
use Rattle.uc_values.specs.declared.value.Value.{Value}
use Rattle.uc_ops.specs.declared.model.Model.{Model}
use Rattle.uc_ops.specs.declared.node.Node.{Node}
use Rattle.uc_ops.specs.Typing.{type_at}
use Rattle.uc_terms.specs.Values.{value}

-- the new table goes on from the old one
pub record Grows (old new : List Node) : Type 0 where
  pub more : List Node
  pub is : new ≡ old ++ more

-- a term of the new table has this type, and this value under every model
pub record IsTerm (old new : List Node) (t : ℕ) (type : Ty) (meaning : Model → Value) : Type 0 where
  pub grown : Grows old new
  pub there : t < length new
  pub typed : type_at new t ≡ type
  pub means : (m : Model) → value m new t ≡ meaning m

-- terms of the new table have these types, and these values under every model
pub record AreTerms (old new : List Node) (ts : List ℕ) (types : List Ty) (meanings : Model → List Value) : Type 0 where
  pub grown : Grows old new
  pub there : All (λ t. t < length new) ts
  pub typed : map (type_at new) ts ≡ types
  pub means : (m : Model) → map (value m new) ts ≡ meanings m

-- there is a term of each type
pub record AreCells (nodes : List Node) (types : List Ty) (cells : List ℕ) : Type 0 where
  pub there : All (λ t. t < length nodes) cells
  pub typed : map (type_at nodes) cells ≡ types
