-- What the analysis of a conflict gives.
use Rattle.std.specs.Prelude.{ℕ, List, length}
use Rattle.uc_circuit.specs.declared.literal.Lit.{Lit}
use Rattle.uc_log.specs.Refutes.{IsLearnt}
use Rattle.uc_learner.specs.declared.state.State.{State}
use Rattle.uc_learner.specs.Teaching.{CanTeach}

-- the clause follows by its hints, and the search may take it over
pub record Learns (s : State) (clause : List Lit) (hints : List ℕ) (target : ℕ) : Type 0 where
  pub learnt : IsLearnt (length s.inputs.items) s.clauses.items clause hints
  pub teaches : CanTeach s clause target
