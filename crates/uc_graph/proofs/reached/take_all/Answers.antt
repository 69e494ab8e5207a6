use Rattle.uc_graph.proofs.Takings.{takes_end, takes_more, takes_none}
use Rattle.uc_graph.proofs.reached.take_all.Goals as goal

pub loop-node-init : goal.loop-node-init
loop-node-init c = takes_none c.args.left.now c.args.taken.now

pub loop-node-preserved : goal.loop-node-preserved
loop-node-preserved c =
    takes_more c.args.nodes.now c.loop-node.node-index _ c.args.left.now c.args.taken.now c.loop-node.left c.loop-node.taken c.take.new.left c.take.new.taken c.loop-node-test.true
    c.loop-node.invariant c.in_ok-take.ensures

pub returns : goal.returns
returns c = takes_end c.args.nodes.now c.loop-node.node-index c.args.left.now c.args.taken.now c.loop-node.left c.loop-node.taken c.loop-node-test.false c.loop-node.invariant
