use Rattle.std.proofs.Common.{◌∙◌, sym, subst}
use Rattle.uc_simplify_steps.specs.Steps.{IsTruth}
use Rattle.uc_simplify_steps.proofs.Booleans.{negation_replaces}
use Rattle.uc_simplify_steps.proofs.truths.condition_negated.Goals as goal

pub returns : goal.returns
returns c =
    negation_replaces c.args.terms.now c.args.condition c.args.then c.args.other c.in_ok-parts.parts c.len-count.ensures.well c.requires.condition c.requires.suits (sym c.ty.ensures.ty ∙ c.in-Bool.is)
    (subst (IsTruth c.args.terms.now c.args.then) c.in-Some-false.field-0-test c.in-Some-false.ensures) (subst (IsTruth c.args.terms.now c.args.other) c.in-Some-true.field-0-test c.in-Some-true.ensures) c.in_ok-parts.ensures
