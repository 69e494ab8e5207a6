use Rattle.uc_graph.proofs.Flags.{sets_end, sets_more, sets_none}
use Rattle.uc_graph.proofs.settled.set_all.Goals as goal

pub loop-node-init : goal.loop-node-init
loop-node-init c = sets_none c.args.flags.now

pub loop-node-preserved : goal.loop-node-preserved
loop-node-preserved c = sets_more c.args.nodes.now c.loop-node.node-index _ c.args.flags.now c.loop-node.flags c.set.new.flags c.loop-node-test.true c.loop-node.invariant c.set.ensures

pub returns : goal.returns
returns c = sets_end c.args.nodes.now c.loop-node.node-index c.args.flags.now c.loop-node.flags c.loop-node-test.false c.loop-node.invariant
