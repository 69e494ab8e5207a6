use Rattle.std.proofs.Common.{◌∙◌, sym, subst}
use Rattle.uc_simplify_steps.specs.Steps.{IsTruth}
use Rattle.uc_simplify_steps.proofs.Twos.{true_known}
use Rattle.uc_simplify_steps.proofs.pairs.compared_to_true.Goals as goal

pub returns : goal.returns
returns c =
    true_known c.args.terms.now c.args.a c.args.b c.len-count.ensures.well c.requires.left (sym c.ty.ensures.ty ∙ c.in-Bool.is) (subst (IsTruth c.args.terms.now c.args.b) c.in-Some-true.field-0-test c.in-Some-true.ensures)
