use Rattle.uc_graph.proofs.Flags.{clears_end, clears_more, clears_none}
use Rattle.uc_graph.proofs.settled.clear_all.Goals as goal

pub loop-node-init : goal.loop-node-init
loop-node-init c = clears_none c.args.flags.now

pub loop-node-preserved : goal.loop-node-preserved
loop-node-preserved c = clears_more c.args.nodes.now c.loop-node.node-index _ c.args.flags.now c.loop-node.flags c.clear.new.flags c.loop-node-test.true c.loop-node.invariant c.clear.ensures

pub returns : goal.returns
returns c = clears_end c.args.nodes.now c.loop-node.node-index c.args.flags.now c.loop-node.flags c.loop-node-test.false c.loop-node.invariant
