use Rattle.std.proofs.Common.{ap, sym}
use Rattle.uc_step_cycles.specs.Building.{act_edges}
use Rattle.uc_step_cycles.proofs.Growing.{adds_by, upto_begin, upto_end, upto_more}
use Rattle.uc_step_cycles.proofs.block_edges.add_acts.Goals as goal

pub loop-number-init : goal.loop-number-init
loop-number-init c = upto_begin _ _ _

pub loop-number-preserved : goal.loop-number-preserved
loop-number-preserved c = upto_more _ _ _ _ _ _ c.index-acts-number.result _ c.loop-number.invariant c.loop-number-test.true c.index-acts-number.is (adds_by _ _ _ _ (ap (λ d. act_edges c.args.names.now c.args.bases.now c.args.spot d c.index-acts-number.result) (sym c.in_ok-sum.ensures)) c.in_ok-add_act.ensures)

pub returns : goal.returns
returns c = upto_end _ _ _ _ _ c.loop-number.invariant c.loop-number-test.false
