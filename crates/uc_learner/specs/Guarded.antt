-- Propagation was complete before each decision.
use Rattle.std.specs.Prelude.{ℕ, List, Option}
use Rattle.uc_circuit.specs.declared.literal.Lit.{Lit}
use Rattle.uc_rings.specs.Watched.{AllGuard}
use Rattle.uc_learner.specs.declared.state.State.{State}
use Rattle.uc_learner.specs.declared.state.Step.{Step}
use Rattle.uc_learner.specs.Trail.{values_at}
use Rattle.uc_learner.specs.Walked.{IsDecision}

-- just before each decision, where a watched literal was false, the clause's other one was true
abbrev pub DecisionsAreGuarded : ℕ → List Step → List (Option Lit) → Type 0
DecisionsAreGuarded n trail watched = (i : ℕ) (l : Lit) → IsDecision trail i l → AllGuard (values_at n trail i) (values_at n trail i) watched

-- no clause is left to look at
abbrev pub IsGuarded : State → Type 0
IsGuarded s = AllGuard s.values.items s.values.items s.watches.watched.items
