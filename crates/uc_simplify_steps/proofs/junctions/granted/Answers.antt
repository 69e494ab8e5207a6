use Rattle.std.proofs.Common.{arith, subst}
use Rattle.uc_simplify_steps.specs.Steps.{IsTruth}
use Rattle.uc_simplify_steps.proofs.Joins.{granted_right}
use Rattle.uc_simplify_steps.proofs.junctions.granted.Goals as goal

pub returns-in-Some-true : goal.returns-in-Some-true
returns-in-Some-true c =
    granted_right c.args.terms.now c.args.parts.now c.loop-part.part-index c.part-item.result c.boolean.result (omega (arith, c.loop-part-test.true)) c.part-item.is
    (subst (IsTruth c.args.terms.now c.part-item.result) c.in-Some-true.field-0-test c.in-Some-true.ensures) c.boolean.ensures
