use Rattle.uc_flat_order.proofs.Kept.{once_more}
use Rattle.uc_flat_order.proofs.wanted.each_once.Goals as goal

pub loop-name-preserved : goal.loop-name-preserved
loop-name-preserved c = once_more c.args.names.now c.loop-name.name-index c.loop-name.all c.in_ok-all.all c.loop-name.invariant c.loop-name-test.true c.in_ok-all.ensures
