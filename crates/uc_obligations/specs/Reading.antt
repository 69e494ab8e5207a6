-- The trace of the states under a model.
use Rattle.std.specs.Prelude.{◌≡◌, ℕ, ◌<◌, true, IsTrue, List, [], ◌∷◌, ◌++◌, drop, map, length, slice_get, Option, None, Some, All}
use Rattle.std.specs.List.{flat_map}
use Rattle.uc_linear.specs.declared.exact.Wide.{Wide}
use Rattle.uc_values.specs.declared.ty.Ty.{Ty}
use Rattle.uc_values.specs.declared.value.Value.{Value}
use Rattle.uc_values.specs.Values.{fits, truth_of}
use Rattle.uc_ops.specs.declared.model.Model.{Model}
use Rattle.uc_ops.specs.declared.node.Node.{Node}
use Rattle.uc_ops.specs.Meaning.{part, fitting}
use Rattle.uc_ops.specs.Typing.{Valid, AllValid}
use Rattle.uc_terms.specs.Values.{value}
use Rattle.uc_terms.specs.Met.{Meets}
use Rattle.uc_flat.specs.declared.flat.Flat.{Flat}
use Rattle.uc_flat.specs.declared.flat.Constant.{Constant}
use Rattle.uc_flat.specs.Drawn.{listed_if}
use Rattle.uc_flat.specs.Executions.{FitAll}
use Rattle.uc_symstep.specs.declared.state.Choice.{Choice}
use Rattle.uc_symstep.specs.declared.state.Hit.{Hit}
use Rattle.uc_symstep.specs.declared.state.SymState.{SymState}
use Rattle.uc_symstep.specs.Stands.{holds}
use Rattle.uc_symstep.specs.Known.{IsKnown}
use Rattle.uc_flat.specs.declared.trace.FlatPosition.{FlatPosition}
use Rattle.uc_flat.specs.Traces.{HasConstants, constant_types}
use Rattle.uc_flat_copies.specs.declared.trace.FlatCopies.{FlatCopies}

-- what is read of a state, where each term has its value in a list, by its number
abbrev pub choice_read : List Value → Choice → List Value
choice_read values c = listed_if (truth_of (part values c.taken)) (part values c.term)

abbrev pub hit_read : List Value → Hit → List ℕ
hit_read values h = listed_if (truth_of (part values h.failed)) h.site

abbrev pub position_read : List Value → SymState → FlatPosition
position_read values s = record { cells = map (part values) s.cells; choices = flat_map (choice_read values) s.choices; sites = flat_map (hit_read values) s.sites }

-- A value of the type: the one that is given where it fits, else the one that counts as 0. There is none only where the type is not a valid one.
abbrev pub IsFitting : Ty → Option Value → Option Value → Type 0
IsFitting ty given None = Valid ty → ⊥
IsFitting ty given (Some v) = IsTrue (fits ty v) × (v ≡ fitting ty given)

-- The values of the constants under a model: each fits its type, and is that of the symbol of its number, where that fits.
pub record AreRead (f : Flat) (m : Model) (values : List Value) : Type 0 where
  pub fit : FitAll (constant_types f) values
  pub count : length values ≡ length f.constants
  pub each : (k : ℕ) (c : Constant) → slice_get f.constants k ≡ Some c → slice_get values k ≡ Some (fitting c.ty (slice_get m.symbols k))

-- there are none only where the type of a constant is not a valid one
abbrev pub AreConstantsOf : Flat → Model → Option (List Value) → Type 0
AreConstantsOf f m None = AllValid (constant_types f) → ⊥
AreConstantsOf f m (Some values) = AreRead f m values

-- the model with these values as its first symbols
abbrev pub beginning_with : List Value → Model → Model
beginning_with values m = record { symbols = values ++ drop (length values) m.symbols; tables = m.tables }

-- the operation is met where a term is evaluated under a model that begins with the values of the constants
pub record MeetsIn (f : Flat) (nodes : List Node) (m : Model) (w : Wide) : Type 0 where
  pub constants : List Value
  pub read : AreRead f m constants
  pub term : ℕ
  pub there : term < length nodes
  pub met : Meets (beginning_with constants m) nodes term w

-- the numbers below n, in order
pub record AreNumbers (n : ℕ) (ts : List ℕ) : Type 0 where
  pub count : length ts ≡ n
  pub each : (k : ℕ) → k < n → slice_get ts k ≡ Some k
  pub below : All (λ t. t < n) ts

-- the list has the value of each term under the model
abbrev pub AreValues : Model → List Node → List Value → Type 0
AreValues m nodes values = (t : ℕ) → t < length nodes → part values t ≡ value m nodes t

-- the trace has one copy, that of the states under a model that has its constants and makes the goal true
pub record IsTraceOf (f : Flat) (nodes : List Node) (goal : ℕ) (states : List SymState) (t : FlatCopies) : Type 0 where
  pub model : Model
  pub values : List Value
  pub constants : HasConstants f t.constants model
  pub are : AreValues model nodes values
  pub goal_true : holds model nodes goal ≡ true
  pub copies : t.copies ≡ map (position_read values) states ∷ []

-- A model tells such a trace. It tells none only where the goal is not true under it, where a constant is read at another type than its own, or where the type of one is not a valid one.
abbrev pub IsToldBy : Flat → List Node → ℕ → List SymState → Model → Option FlatCopies → Type 0
IsToldBy f nodes goal states m None = AllValid (constant_types f) → (more : List Ty) → IsKnown (constant_types f ++ more) nodes goal → holds m nodes goal ≡ true → ⊥
IsToldBy f nodes goal states m (Some t) = IsTraceOf f nodes goal states t
