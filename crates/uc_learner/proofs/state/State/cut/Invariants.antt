use Rattle.std.proofs.Common.{◌≤◌, length}
use Rattle.uc_learner.specs.Moves.{Cut}
use Rattle.uc_learner.proofs.state.State.cut.Given as goal

abbrev pub invariant-loop-self : goal.invariant-loop-self
invariant-loop-self l = record {
  cut : Cut l.initial.self (length l.self.trail.items) l.self;
  inside : l.target ≤ length l.self.trail.items;
}

abbrev pub decreases-loop-self : goal.decreases-loop-self
decreases-loop-self l = length l.self.trail.items
