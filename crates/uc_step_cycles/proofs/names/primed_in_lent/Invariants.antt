use Rattle.std.proofs.Common.{[], ◌∷◌}
use Rattle.std.specs.Borrow.{Bor}
use Rattle.uc_syntax.specs.declared.expression.Expr.{Expr}
use Rattle.uc_syntax.proofs.Added.{AddedUpTo}
use Rattle.uc_step_cycles.specs.Acts.{primed_names}
use Rattle.uc_step_cycles.proofs.names.primed_in_lent.Given as goal

abbrev pub invariant-loop-expression : goal.invariant-loop-expression
invariant-loop-expression l = AddedUpTo (λ (e : Bor Expr). primed_names (e.now ∷ [])) l.expressions l.initial.names l.expression-index l.names
