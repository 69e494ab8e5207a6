use Rattle.std.proofs.Common.{refl, ◌∙◌}
use Rattle.uc_graph.proofs.Reversing.{reversed_begin, reversed_end, reversed_more}
use Rattle.uc_graph.proofs.reversed.reversed.Goals as goal

pub loop-node-init : goal.loop-node-init
loop-node-init c = reversed_begin c.args.graph.now c.in_ok-back.back _ refl c.in_ok-back.ensures

pub loop-node-preserved : goal.loop-node-preserved
loop-node-preserved c =
    reversed_more c.args.graph.now c.loop-node.back c.add_all.new.back c.loop-node.node c.as_slice.result.now c.index-graph-node.result c.loop-node-test.true (c.as_slice.ensures ∙ c.index-graph-node.is) c.loop-node.invariant c.in_ok-add_all.ensures

pub returns : goal.returns
returns c = reversed_end c.args.graph.now c.loop-node.back c.loop-node.node c.loop-node-test.false c.loop-node.invariant
