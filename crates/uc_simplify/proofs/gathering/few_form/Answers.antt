use Rattle.uc_simplify.proofs.Forms.{few_next}
use Rattle.uc_simplify.proofs.gathering.few_form.Goals as goal

pub loop-part-preserved : goal.loop-part-preserved
loop-part-preserved c =
    few_next c.args.terms.now c.args.parts.now c.loop-part.part-index c.part-item.result c.in_ok-form.form c.loop-part.form c.in_ok-next.next c.loop-part-test.true c.part-item.is c.in_ok-form.ensures.ok c.loop-part.invariant c.in_ok-next.ensures
