use Rattle.std.proofs.Common.{ap, ◌∙◌, ◌++◌}
use Rattle.std.specs.Borrow.{Bor}
use Rattle.uc_syntax.specs.declared.expression.Expr.{Expr}
use Rattle.uc_syntax.proofs.Added.{added_begin, added_end, added_more}
use Rattle.uc_order_rules.specs.Mentions.{mentions}
use Rattle.uc_uses.specs.Meant.{meant}
use Rattle.uc_uses.proofs.Mentions.{mentions_lent}
use Rattle.uc_uses.proofs.mentioned_uses.add_in_all.Goals as goal

pub loop-expression-init : goal.loop-expression-init
loop-expression-init c = added_begin _ _ _

pub loop-expression-preserved : goal.loop-expression-preserved
loop-expression-preserved c =
    added_more (λ (e : Bor Expr). mentions e.now) _ _ _ _ _ c.expression-item.result c.loop-expression.invariant c.loop-expression-test.true c.expression-item.is c.in_ok-add_mentions.ensures

pub returns : goal.returns
returns c = added_end _ _ _ _ _ c.loop-expression.invariant c.loop-expression-test.false ∙ ap (λ ms. meant c.args.found.now ++ ms) (mentions_lent c.args.expressions.now)
