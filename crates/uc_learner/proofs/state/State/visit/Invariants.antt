use Rattle.std.proofs.Common.{length}
use Rattle.uc_rings.specs.Lists.{slots_of}
use Rattle.uc_rings.proofs.WatchesSlots.{rest_from}
use Rattle.uc_learner.proofs.Visiting.{Visiting}
use Rattle.uc_learner.proofs.state.State.visit.Given as goal

abbrev pub invariant-loop-at : goal.invariant-loop-at
invariant-loop-at l = Visiting l.fn.self l.self l.fn.literal l.at

abbrev pub decreases-loop-at : goal.decreases-loop-at
decreases-loop-at l = length (rest_from l.at (slots_of l.self.watches.rings l.fn.literal))
