use Rattle.uc_flat_making.proofs.Entries.{meant_more}
use Rattle.uc_flat_making.proofs.table.all_meant.Goals as goal

pub loop-number-preserved : goal.loop-number-preserved
loop-number-preserved c = meant_more _ _ _ _ _ _ c.loop-number.invariant c.in_ok-name.ensures c.in_ok-meant.ensures c.in_ok-push.ensures.ok
