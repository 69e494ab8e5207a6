use Rattle.std.specs.Option.{option_copied}
use Rattle.uc_checks.specs.Walks.{AreStates, CopyTells}
use Rattle.uc_checks.proofs.Told.{Passed}
use Rattle.uc_checks.proofs.RefutingJudging.{Listed}
use Rattle.uc_checks.proofs.copies.each_lists.Given as goal

abbrev pub invariant-loop-copy : goal.invariant-loop-copy
invariant-loop-copy l =
    Passed (CopyTells l.walk.beginning l.walk.layout.now l.walk.interp.now) (AreStates l.walk.beginning l.walk.layout.now l.walk.interp.now) l.copies l.copy-index
    × Listed l.walk.beginning l.walk.layout.now l.walk.interp.now (option_copied l.walk.site) l.copies l.copy-index l.all
