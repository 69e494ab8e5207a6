use Rattle.uc_uses.proofs.Named.{named_begin, named_end, named_more}
use Rattle.uc_uses.proofs.modules.table_of.Goals as goal

pub loop-whole-init : goal.loop-whole-init
loop-whole-init c = named_begin c.args.modules.now c.new-table.result c.new-table.ensures

pub loop-whole-preserved : goal.loop-whole-preserved
loop-whole-preserved c =
    named_more c.args.modules.now c.loop-whole.table c.enter.new.self c.loop-whole.whole-index _ c.whole-item.result c.loop-whole.invariant c.loop-whole-test.true c.whole-item.is c.in_ok-enter.ensures

pub returns : goal.returns
returns c = named_end c.args.modules.now c.loop-whole.table c.loop-whole.whole-index c.loop-whole.invariant c.loop-whole-test.false
