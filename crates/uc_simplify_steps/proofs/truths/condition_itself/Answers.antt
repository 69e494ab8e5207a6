use Rattle.std.proofs.Common.{◌∙◌, sym, subst}
use Rattle.uc_simplify_steps.specs.Steps.{IsTruth}
use Rattle.uc_simplify_steps.proofs.Booleans.{condition_known}
use Rattle.uc_simplify_steps.proofs.truths.condition_itself.Goals as goal

pub returns : goal.returns
returns c =
    condition_known c.args.terms.now c.args.condition c.args.then c.args.other c.len-count.ensures.well c.requires.condition c.requires.suits (sym c.ty.ensures.ty ∙ c.in-Bool.is)
    (subst (IsTruth c.args.terms.now c.args.then) c.in-Some-true.field-0-test c.in-Some-true.ensures) (subst (IsTruth c.args.terms.now c.args.other) c.in-Some-false.field-0-test c.in-Some-false.ensures)
