use Rattle.std.proofs.Common.{refl}
use Rattle.uc_graph.proofs.GraphCyclesSteps.{settles_begin, settles_end, settles_none}
use Rattle.uc_graph.proofs.cycles.on_cycles.Goals as goal

pub loop-node-init : goal.loop-node-init
loop-node-init c =
    settles_none c.args.graph.now c.settle_all.new.settled
    (c.in_ok-settle_all.ensures (settles_begin c.args.graph.now c.in_ok-settled.settled _ refl c.in_ok-settled.ensures.left c.in_ok-settled.ensures.flags c.in_ok-settled.ensures.inside))

pub returns : goal.returns
returns c = settles_end c.args.graph.now c.loop-node.node c.loop-node.settled c.into_flags.result c.loop-node-test.false c.into_flags.ensures c.loop-node.invariant
