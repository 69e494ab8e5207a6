use Rattle.std.proofs.Common.{[], ◌∷◌, ◌∙◌}
use Rattle.std.specs.Borrow.{Bor}
use Rattle.uc_syntax.specs.declared.expression.Expr.{Expr}
use Rattle.uc_syntax.proofs.Added.{added_begin, added_end, added_more}
use Rattle.uc_step_cycles.specs.Acts.{primed_names}
use Rattle.uc_step_cycles.proofs.Named.{lent_names, whole_is}
use Rattle.uc_step_cycles.proofs.names.primed_in_lent.Goals as goal

pub loop-expression-init : goal.loop-expression-init
loop-expression-init c = added_begin _ _ _

pub loop-expression-preserved : goal.loop-expression-preserved
loop-expression-preserved c =
    added_more (λ (e : Bor Expr). primed_names (e.now ∷ [])) _ _ _ _ _ c.expression-item.result c.loop-expression.invariant c.loop-expression-test.true c.expression-item.is c.in_ok-add_primed.ensures

pub returns : goal.returns
returns c = whole_is _ _ _ c.new-names.ensures (added_end _ _ _ _ _ c.loop-expression.invariant c.loop-expression-test.false) ∙ lent_names c.args.expressions.now
