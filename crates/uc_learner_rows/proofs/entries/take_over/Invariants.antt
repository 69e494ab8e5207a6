use Rattle.std.proofs.Common.{take}
use Rattle.uc_learner.specs.Learners.{HasTakenFor}
use Rattle.uc_learner_rows.proofs.entries.take_over.Given as goal

abbrev pub invariant-loop-number : goal.invariant-loop-number
invariant-loop-number g l = HasTakenFor (g.M.Meter.opened l.meter) (take l.number l.log) l.learner
