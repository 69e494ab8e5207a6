-- Models that give the symbols of a term their values.
use Rattle.std.specs.Prelude.{◌≡◌, ◌≢◌, ℕ, ◌<◌, ◌≤◌, Bool as Truth, true, IsTrue, List, length, slice_get, Some}
use Rattle.uc_values.specs.Values.{fits}
use Rattle.uc_values.specs.declared.ty.Ty.{Ty}
use Rattle.uc_values.specs.declared.value.Value.{Value}
use Rattle.uc_ops.specs.declared.model.Model.{Model}
use Rattle.uc_ops.specs.declared.op.Op.TheVariants.{Symbol, App}
use Rattle.uc_ops.specs.declared.node.Node.{Node}
use Rattle.uc_ops.specs.Typing.{type_at}
use Rattle.uc_ops.specs.Meaning.{part}
use Rattle.uc_terms.specs.Tables.{HasOp}
use Rattle.uc_terms.specs.Values.{value}
use Rattle.uc_terms.specs.Subterms.{IsSubterm, FitsTerm, Marked}
use Rattle.uc_lower.specs.Lowering.{IsSymbol}

-- no function is applied in the term
abbrev pub AppliesNone : List Node → ℕ → Type 0
AppliesNone nodes t = (k number : ℕ) (ty : Ty) → IsSubterm nodes t k → ¬ HasOp nodes k (App number ty)

-- the values at the numbers of the symbols of the term fit these
abbrev pub FitSymbols : List Node → ℕ → List Value → Type 0
FitSymbols nodes t values = (k : ℕ) → IsSubterm nodes t k → IsSymbol nodes k → IsTrue (fits (type_at nodes k) (part values k))

-- under the model, which fits the term, each symbol of the term has the value at its number
pub record HasValues (m : Model) (nodes : List Node) (t : ℕ) (values : List Value) : Type 0 where
  pub fits : FitsTerm m nodes t
  pub same : (k : ℕ) → IsSubterm nodes t k → IsSymbol nodes k → value m nodes k ≡ part values k

-- the list is at least so long, and has what it had
pub record IsFilled (old new : List Value) (count : ℕ) : Type 0 where
  pub long : count ≤ length new
  pub kept : (j : ℕ) (w : Value) → slice_get old j ≡ Some w → slice_get new j ≡ Some w

-- the list has the value at the number, and what it had at every other number
pub record IsPut (old new : List Value) (number : ℕ) (v : Value) : Type 0 where
  pub here : slice_get new number ≡ Some v
  pub others : (j : ℕ) (w : Value) → j ≢ number → slice_get old j ≡ Some w → slice_get new j ≡ Some w

-- what happens at a place: a symbol that is marked is given the value
pub data IsGiven (nodes : List Node) (marked : Truth) (place : ℕ) (v : Value) (old new : List Value) : Type 0 where
  skipped : (marked ≡ true → IsSymbol nodes place → ⊥) → new ≡ old → IsGiven nodes marked place v old new
  given : (number : ℕ) (ty : Ty) → marked ≡ true → HasOp nodes place (Symbol number ty) → IsPut old new number v → IsGiven nodes marked place v old new

-- the symbols that are marked before a place have their values
abbrev pub AreGiven : List Node → List Truth → List Value → ℕ → List Value → Type 0
AreGiven nodes marks values place symbols =
    (k number : ℕ) (ty : Ty) → k < place → Marked marks k → HasOp nodes k (Symbol number ty) → slice_get symbols number ≡ Some (part values k)
