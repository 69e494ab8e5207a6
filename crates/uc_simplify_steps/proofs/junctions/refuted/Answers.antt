use Rattle.std.proofs.Common.{arith, subst}
use Rattle.uc_simplify_steps.specs.Steps.{IsTruth}
use Rattle.uc_simplify_steps.proofs.Joins.{refuted_right}
use Rattle.uc_simplify_steps.proofs.junctions.refuted.Goals as goal

pub returns-in-Some-false : goal.returns-in-Some-false
returns-in-Some-false c =
    refuted_right c.args.terms.now c.args.parts.now c.loop-part.part-index c.part-item.result c.boolean.result (omega (arith, c.loop-part-test.true)) c.part-item.is
    (subst (IsTruth c.args.terms.now c.part-item.result) c.in-Some-false.field-0-test c.in-Some-false.ensures) c.boolean.ensures
