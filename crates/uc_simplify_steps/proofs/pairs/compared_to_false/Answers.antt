use Rattle.std.proofs.Common.{◌∙◌, sym, subst}
use Rattle.uc_simplify_steps.specs.Steps.{IsTruth}
use Rattle.uc_simplify_steps.proofs.Twos.{false_replaces}
use Rattle.uc_simplify_steps.proofs.pairs.compared_to_false.Goals as goal

pub returns : goal.returns
returns c =
    false_replaces c.args.terms.now c.args.a c.args.b c.in_ok-parts.parts c.len-count.ensures.well c.requires.left (sym c.ty.ensures.ty ∙ c.in-Bool.is) (subst (IsTruth c.args.terms.now c.args.b) c.in-Some-false.field-0-test c.in-Some-false.ensures) c.in_ok-parts.ensures
