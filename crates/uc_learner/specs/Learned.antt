-- What taking over a learnt clause does.
use Rattle.std.specs.Prelude.{◌≡◌, ℕ, ◌+◌, ◌<◌, ◌≤◌, List, [], ◌∷◌, ◌++◌, length, All}
use Rattle.uc_circuit.specs.declared.literal.Lit.{Lit}
use Rattle.uc_learner.specs.declared.state.State.{State}
use Rattle.uc_learner.specs.Teaching.{CanTeach}
use Rattle.uc_learner.specs.Moves.{Ready, left_of}

-- the clause is one that the analysis of a conflict may give
pub record IsTaught (s : State) (clause : List Lit) (target : ℕ) : Type 0 where
  pub within : All (λ l. l.var < length s.inputs.items) clause
  pub teaches : CanTeach s clause target

-- the clause is there, the search is between two steps again, and fewer assignments of the inputs are left
pub record LearnedBy (before : State) (clause : List Lit) (after : State) : Type 0 where
  pub clauses : after.clauses.items ≡ before.clauses.items ++ clause ∷ []
  pub inputs : after.inputs.items ≡ before.inputs.items
  pub ready : Ready after
  pub left_less : left_of after + 1 ≤ left_of before
