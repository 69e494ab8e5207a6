use Rattle.std.proofs.Common.{refl}
use Rattle.uc_flat_order.proofs.Used.{item_at}
use Rattle.uc_flat_order.proofs.Finding.{listed_more, listed_end}
use Rattle.uc_flat_order.proofs.writers.writers_of.Goals as goal

pub loop-place-preserved : goal.loop-place-preserved
loop-place-preserved c =
    listed_more c.args.uses.now c.loop-place.place _ c.loop-place.lists c.list_writes.new.lists c.index-uses-place.result c.as_slice.result.now c.loop-place.invariant
    (item_at c.args.uses.now c.loop-place.place c.index-uses-place.result c.loop-place-test.true c.index-uses-place.is) c.as_slice.ensures refl c.in_ok-list_writes.ensures

pub returns : goal.returns
returns c = listed_end c.args.uses.now c.loop-place.place c.loop-place.lists c.loop-place.invariant c.loop-place-test.false
