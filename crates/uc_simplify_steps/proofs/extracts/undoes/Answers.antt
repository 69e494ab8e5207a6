use Rattle.std.proofs.Common.{◌≡◌, sym, subst}
use Rattle.uc_ops.specs.declared.op.Op.TheVariants.{BvNot, BvNeg}
use Rattle.uc_simplify_steps.specs.Combining.{Undoes, complements, negations}
use Rattle.uc_simplify_steps.proofs.extracts.undoes.Goals as goal

pub returns-in-BvNot-matches : goal.returns-in-BvNot-matches
returns-in-BvNot-matches c = λ h. subst (λ o. Undoes o c.args.inner.now) (sym c.in-BvNot.is) (subst (Undoes BvNot) (sym c.in-BvNot-matches.is) complements)

pub returns-in-BvNeg-matches : goal.returns-in-BvNeg-matches
returns-in-BvNeg-matches c = λ h. subst (λ o. Undoes o c.args.inner.now) (sym c.in-BvNeg.is) (subst (Undoes BvNeg) (sym c.in-BvNeg-matches.is) negations)
