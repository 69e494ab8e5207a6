use Rattle.uc_flat_order.proofs.Finding.{grown_more}
use Rattle.uc_flat_order.proofs.writers.list_writes.Goals as goal

pub loop-part-preserved : goal.loop-part-preserved
loop-part-preserved c =
    grown_more c.args.lists.now c.loop-part.lists c.add.new.self c.args.count c.args.place c.loop-part.part-index c.args.writes.now c.part-item.result c.requires.count c.requires.lists c.loop-part.invariant c.loop-part-test.true c.part-item.is c.in_ok-add.ensures.ok
