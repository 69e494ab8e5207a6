use Rattle.std.proofs.Common.{refl, ap, sym}
use Rattle.std.proofs.Common.{[], ◌∷◌}
use Rattle.uc_step_cycles.proofs.Growing.{adds_by, upto_begin, upto_end, upto_more}
use Rattle.uc_step_cycles.proofs.reads.add_used.Goals as goal

pub loop-number-init : goal.loop-number-init
loop-number-init c = upto_begin _ _ _

pub loop-number-preserved : goal.loop-number-preserved
loop-number-preserved c = upto_more _ _ _ _ _ _ _ _ c.loop-number.invariant c.loop-number-test.true refl (adds_by _ _ _ _ (ap (λ n. (c.args.from, n) ∷ []) (sym c.in_ok-to.ensures)) c.in_ok-add_edge.ensures)

pub returns : goal.returns
returns c = upto_end _ _ _ _ _ c.loop-number.invariant c.loop-number-test.false
