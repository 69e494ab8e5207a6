use Rattle.uc_step_cycles.proofs.Growing.{upto_begin, upto_end, upto_more}
use Rattle.uc_step_cycles.proofs.block_edges.add_contexts.Goals as goal

pub loop-number-init : goal.loop-number-init
loop-number-init c = upto_begin _ _ _

pub loop-number-preserved : goal.loop-number-preserved
loop-number-preserved c = upto_more _ _ _ _ _ _ c.index-contexts-number.result _ c.loop-number.invariant c.loop-number-test.true c.index-contexts-number.is c.in_ok-add_context.ensures

pub returns : goal.returns
returns c = upto_end _ _ _ _ _ c.loop-number.invariant c.loop-number-test.false
