use Rattle.std.proofs.Common.{subst}
use Rattle.uc_simplify_steps.specs.Steps.{IsTruth}
use Rattle.uc_simplify_steps.proofs.Booleans.{then_known, other_known}
use Rattle.uc_simplify_steps.proofs.truths.chosen.Goals as goal

pub returns-in-Some-true : goal.returns-in-Some-true
returns-in-Some-true c =
    then_known c.args.terms.now c.args.condition c.args.then c.args.other c.requires.taken (subst (IsTruth c.args.terms.now c.args.condition) c.in-Some-true.field-0-test c.in-Some-true.ensures)

pub returns-in-Some-false : goal.returns-in-Some-false
returns-in-Some-false c =
    other_known c.args.terms.now c.args.condition c.args.then c.args.other c.requires.other c.requires.suits (subst (IsTruth c.args.terms.now c.args.condition) c.in-Some-false.field-0-test c.in-Some-false.ensures)
