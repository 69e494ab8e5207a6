use Rattle.std.proofs.Common.{◌+◌, ◌-◌, length}
use Rattle.uc_learner.specs.Moves.{unset_count}
use Rattle.uc_learner.proofs.Visiting.{Ahead}
use Rattle.uc_learner.proofs.state.State.propagate.Given as goal

abbrev pub invariant-loop-self : goal.invariant-loop-self
invariant-loop-self l = Ahead l.fn.self l.self

abbrev pub decreases-loop-self : goal.decreases-loop-self
decreases-loop-self l = (unset_count l.self.values.items + length l.self.trail.items) - l.self.head
