use Rattle.uc_graph.proofs.Reversing.{enters_end, enters_more, enters_none, enters_one}
use Rattle.uc_graph.proofs.reversed.add_all.Goals as goal

pub loop-need-init : goal.loop-need-init
loop-need-init c = enters_none c.args.node c.args.back.now

pub loop-need-preserved : goal.loop-need-preserved
loop-need-preserved c =
    enters_more c.args.node c.args.needs.now c.loop-need.need-index _ c.args.back.now c.loop-need.back c.add.new.self c.loop-need-test.true
    c.loop-need.invariant (enters_one c.args.node _ c.loop-need.back c.add.new.self c.in_ok-add.ensures.ok)

pub returns : goal.returns
returns c = enters_end c.args.node c.args.needs.now c.loop-need.need-index c.args.back.now c.loop-need.back c.loop-need-test.false c.loop-need.invariant
