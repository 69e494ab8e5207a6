use Rattle.std.proofs.Common.{[], ◌∷◌, ◌++◌, ◌∙◌, ap}
use Rattle.uc_syntax.proofs.Added.{added_begin, added_end, added_more}
use Rattle.uc_uses.specs.Lent.{lent}
use Rattle.uc_uses.proofs.ExpressionForms.{one_by_one}
use Rattle.uc_uses.proofs.targets.add_all.Goals as goal

pub loop-expression-init : goal.loop-expression-init
loop-expression-init c = added_begin _ _ _

pub loop-expression-preserved : goal.loop-expression-preserved
loop-expression-preserved c =
    added_more (λ e. e ∷ []) _ _ _ _ _ c.expression-item.result c.loop-expression.invariant c.loop-expression-test.true c.expression-item.is c.in_ok-push.ensures

pub returns : goal.returns
returns c = added_end _ _ _ _ _ c.loop-expression.invariant c.loop-expression-test.false ∙ ap (λ es. lent c.args.found.now ++ es) (one_by_one c.args.expressions.now)
