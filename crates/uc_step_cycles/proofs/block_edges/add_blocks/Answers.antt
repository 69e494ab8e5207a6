use Rattle.uc_step_cycles.proofs.Growing.{upto_begin, upto_end, upto_more}
use Rattle.uc_step_cycles.proofs.block_edges.add_blocks.Goals as goal

pub loop-node-init : goal.loop-node-init
loop-node-init c = upto_begin _ _ _

pub loop-node-preserved : goal.loop-node-preserved
loop-node-preserved c = upto_more _ _ _ _ _ _ c.index-blocks-node.result _ c.loop-node.invariant c.loop-node-test.true c.index-blocks-node.is c.in_ok-add_block.ensures

pub returns : goal.returns
returns c = upto_end _ _ _ _ _ c.loop-node.invariant c.loop-node-test.false
