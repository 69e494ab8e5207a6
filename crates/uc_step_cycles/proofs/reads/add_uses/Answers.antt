use Rattle.std.proofs.Common.{ap, sym}
use Rattle.uc_step_cycles.specs.Building.{use_edges}
use Rattle.uc_step_cycles.proofs.Growing.{adds_by, upto_begin, upto_end, upto_more}
use Rattle.uc_step_cycles.proofs.reads.add_uses.Goals as goal

pub loop-number-init : goal.loop-number-init
loop-number-init c = upto_begin _ _ _

pub loop-number-preserved : goal.loop-number-preserved
loop-number-preserved c = upto_more _ _ _ _ _ _ c.index-used-number.result _ c.loop-number.invariant c.loop-number-test.true c.index-used-number.is (adds_by _ _ _ _ (ap (use_edges c.args.names.now c.args.start c.args.named.now c.loop-number.number) (sym c.as_slice.ensures)) c.in_ok-add_use.ensures)

pub returns : goal.returns
returns c = upto_end _ _ _ _ _ c.loop-number.invariant c.loop-number-test.false
