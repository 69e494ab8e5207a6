use Rattle.std.proofs.Common.{◌≤◌, length, reverse}
use Rattle.uc_learner.specs.Walked.{Walked}
use Rattle.uc_learner.proofs.state.State.analyze.Given as goal

abbrev pub invariant-loop-at : goal.invariant-loop-at
invariant-loop-at l = record {
  inside : l.at ≤ length l.self.trail.items;
  walked : Walked l.self l.at l.analysis.marked.items l.analysis.kept.items (reverse l.analysis.hints.items) l.analysis.target;
}

abbrev pub decreases-loop-at : goal.decreases-loop-at
decreases-loop-at l = l.at
