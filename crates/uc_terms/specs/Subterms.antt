-- Subterms, and what they give to the numbers of symbols and functions.
use Rattle.std.specs.Prelude.{◌≡◌, ℕ, ◌≤◌, Bool, true, false, IsTrue, List, length, slice_get, slice_index_or, Some, All, Contains}
use Rattle.std.specs.List.{AllZip}
use Rattle.uc_values.specs.Values.{fits}
use Rattle.uc_values.specs.declared.table.Table.{Table}
use Rattle.uc_values.specs.declared.table.Row.{Row}
use Rattle.uc_values.specs.declared.ty.Ty.{Ty}
use Rattle.uc_values.specs.declared.value.Value.{Value}
use Rattle.uc_ops.specs.declared.model.Model.{Model}
use Rattle.uc_ops.specs.declared.op.Op.TheVariants.{Symbol, App}
use Rattle.uc_ops.specs.declared.node.Node.{Node}
use Rattle.uc_ops.specs.Typing.{types_at}
use Rattle.uc_terms.specs.Tables.{parts_at, HasOp}

-- the number is t or that of a part of a subterm of t
pub data IsSubterm (nodes : List Node) (t : ℕ) : ℕ → Type 0 where
  itself : IsSubterm nodes t t
  deeper : (k p : ℕ) → IsSubterm nodes t k → Contains (parts_at nodes k) p → IsSubterm nodes t p

-- Each symbol number in a term has one type, and each function number one list of types of arguments and one type of its result.
pub record EvenlyTyped (nodes : List Node) (t : ℕ) : Type 0 where
  pub symbols : (j k number : ℕ) (r s : Ty) → IsSubterm nodes t j → IsSubterm nodes t k → HasOp nodes j (Symbol number r) → HasOp nodes k (Symbol number s) → r ≡ s
  pub functions : (j k number : ℕ) (r s : Ty) → IsSubterm nodes t j → IsSubterm nodes t k → HasOp nodes j (App number r) → HasOp nodes k (App number s)
      → (r ≡ s) × (types_at nodes (parts_at nodes j) ≡ types_at nodes (parts_at nodes k))

abbrev pub FitsRow : List Ty → Ty → Row → Type 0
FitsRow types ty row = AllZip (λ t v. IsTrue (fits t v)) types row.arguments × IsTrue (fits ty row.result)

-- the arguments, the results and the default of a table fit
pub record FitsTable (types : List Ty) (ty : Ty) (table : Table) : Type 0 where
  pub rows : All (FitsRow types ty) table.rows
  pub default : IsTrue (fits ty table.default)

-- the model has values and tables that fit the types that the term gives to their numbers
pub record FitsTerm (m : Model) (nodes : List Node) (t : ℕ) : Type 0 where
  pub symbols : (k number : ℕ) (ty : Ty) → IsSubterm nodes t k → HasOp nodes k (Symbol number ty) → (v : Value) × (slice_get m.symbols number ≡ Some v) × IsTrue (fits ty v)
  pub functions : (k number : ℕ) (ty : Ty) → IsSubterm nodes t k → HasOp nodes k (App number ty)
      → (table : Table) × (slice_get m.tables number ≡ Some table) × FitsTable (types_at nodes (parts_at nodes k)) ty table

-- the number is that of a subterm of one of the terms
pub record IsBelow (nodes : List Node) (roots : List ℕ) (k : ℕ) : Type 0 where
  pub root : ℕ
  pub listed : Contains roots root
  pub below : IsSubterm nodes root k

abbrev pub Marked : List Bool → ℕ → Type 0
Marked marks k = slice_index_or marks k false ≡ true

-- the marks are on the subterms of the terms
pub record AreSubterms (nodes : List Node) (roots : List ℕ) (marks : List Bool) : Type 0 where
  pub within : length marks ≤ length nodes
  pub sound : (k : ℕ) → Marked marks k → IsBelow nodes roots k
  pub complete : (k : ℕ) → IsBelow nodes roots k → Marked marks k
