use Rattle.std.proofs.Common.{◌≡◌, ◌<◌, ◌≤◌, ℕ, List, length}
use Rattle.uc_circuit.specs.declared.literal.Lit.{Lit}
use Rattle.uc_learner.specs.Walked.{IsDecision}
use Rattle.uc_learner.proofs.acceptance.decision_from.Given as goal

abbrev pub invariant-loop-place : goal.invariant-loop-place
invariant-loop-place l = record {
  le : l.from ≤ l.place;
  none : (j : ℕ) (m : Lit) → IsDecision l.trail j m → l.from ≤ j → j < l.place → ⊥;
}
