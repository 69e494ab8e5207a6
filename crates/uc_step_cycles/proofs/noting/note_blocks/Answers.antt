use Rattle.uc_step_cycles.specs.Noted.{noted_all}
use Rattle.uc_step_cycles.proofs.Told.{noted_begin, noted_end, noted_more}
use Rattle.uc_step_cycles.proofs.noting.note_blocks.Goals as goal

pub loop-node-init : goal.loop-node-init
loop-node-init c = noted_begin _ _ _

pub loop-node-preserved : goal.loop-node-preserved
loop-node-preserved c = noted_more _ _ _ _ _ _ c.index-blocks-node.result _ c.loop-node.invariant c.loop-node-test.true c.index-blocks-node.is c.note_block.ensures

pub returns : goal.returns
unfolding noted_all
returns c = noted_end _ _ _ _ _ c.loop-node.invariant c.loop-node-test.false
