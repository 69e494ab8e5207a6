use Rattle.std.specs.Borrow.{Bor}
use Rattle.uc_syntax.specs.declared.expression.Expr.{Expr}
use Rattle.uc_syntax.proofs.Added.{AddedUpTo}
use Rattle.uc_order_rules.specs.Mentions.{mentions}
use Rattle.uc_uses.specs.Meant.{meant}
use Rattle.uc_uses.proofs.mentioned_uses.add_in_all.Given as goal

abbrev pub invariant-loop-expression : goal.invariant-loop-expression
invariant-loop-expression l = AddedUpTo (λ (e : Bor Expr). mentions e.now) l.expressions (meant l.fn.found) l.expression-index (meant l.found)
