use Rattle.std.proofs.Common.{refl, ap, sym}
use Rattle.uc_step_cycles.specs.Edges.{edges_from}
use Rattle.uc_step_cycles.proofs.Growing.{adds_by, upto_begin, upto_end, upto_more}
use Rattle.uc_step_cycles.proofs.reads.add_named.Goals as goal

pub loop-name-init : goal.loop-name-init
loop-name-init c = upto_begin _ _ _

pub loop-name-preserved : goal.loop-name-preserved
loop-name-preserved c = upto_more _ _ _ _ _ _ _ _ c.loop-name.invariant c.loop-name-test.true refl (adds_by _ _ _ _ (ap (edges_from c.args.from) (sym c.written-to.ensures)) c.in_ok-add_from.ensures)

pub returns : goal.returns
returns c = upto_end _ _ _ _ _ c.loop-name.invariant c.loop-name-test.false
