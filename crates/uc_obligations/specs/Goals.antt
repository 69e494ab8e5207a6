-- The goal of a formula after so many steps, and the traces that refute the formula.
use Rattle.std.specs.Prelude.{◌≡◌, ℕ, true, List, Option, None, Some}
use Rattle.uc_values.specs.declared.value.Value.{Value}
use Rattle.uc_values.specs.declared.value.Value.TheVariants.{Bool as Truth}
use Rattle.uc_ops.specs.declared.model.Model.{Model}
use Rattle.uc_ops.specs.declared.node.Node.{Node}
use Rattle.uc_ops.specs.Typing.{AllValid}
use Rattle.uc_terms.specs.Values.{value}
use Rattle.uc_flat.specs.declared.flat.Flat.{Flat}
use Rattle.uc_flat.specs.declared.flat.Formula.{Formula}
use Rattle.uc_symstep.specs.Stands.{holds}
use Rattle.uc_symstep.specs.Known.{IsKnown, supply_from}
use Rattle.uc_flat.specs.Traces.{constant_types, HasConstants}
use Rattle.uc_flat_copies.specs.declared.trace.FlatCopies.{FlatCopies}
use Rattle.uc_flat_copies.specs.declared.trace.Start.{Start}
use Rattle.uc_flat_copies.specs.Traces.{RefutesCopies}
use Rattle.uc_flat_copies.specs.Lines.{line_over, is_refuted_at}

-- A term is the goal of a formula after n steps: it is true exactly in the models that refute the formula there.
abbrev pub IsGoal : Flat → Start → Formula → ℕ → List Node → ℕ → Type 0
IsGoal f start x n nodes goal = (m : Model) → value m nodes goal ≡ Truth (is_refuted_at f start n x m)

-- The models of a term are the refuting traces: each trace that refutes the formula gives a model that makes the term true, and each such model, whose constants fit their types, gives a trace with these constants.
pub record IsObligation (f : Flat) (start : Start) (x : Formula) (n : ℕ) (nodes : List Node) (goal : ℕ) : Type 0 where
  pub found : (t : FlatCopies) → RefutesCopies f (line_over f start n x) t → (m : Model) × (holds m nodes goal ≡ true)
  pub refutes : (m : Model) (constants : List Value) → HasConstants f constants m → holds m nodes goal ≡ true → (t : FlatCopies) × (t.constants ≡ constants) × RefutesCopies f (line_over f start n x) t

-- A model of the goal of a formula of one copy after n steps tells a trace that refutes the formula. It tells none only where the goal is not true under it, where a constant is read at another type than its own, or where the type of one is not a valid one.
abbrev pub IsTold : Flat → Start → ℕ → List Node → ℕ → Model → Option FlatCopies → Type 0
IsTold f start n nodes goal m None = AllValid (constant_types f) → IsKnown (supply_from f start n) nodes goal → holds m nodes goal ≡ true → ⊥
IsTold f start n nodes goal m (Some t) = (x : Formula) → x.copies ≡ 1 → IsGoal f start x n nodes goal → RefutesCopies f (line_over f start n x) t
