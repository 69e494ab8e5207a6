use Rattle.std.proofs.Common.{◌∷◌, []}
use Rattle.uc_syntax.proofs.Added.{AddedUpTo}
use Rattle.uc_uses.specs.Lent.{lent}
use Rattle.uc_uses.proofs.targets.add_all.Given as goal

abbrev pub invariant-loop-expression : goal.invariant-loop-expression
invariant-loop-expression l = AddedUpTo (λ e. e ∷ []) l.expressions (lent l.fn.found) l.expression-index (lent l.found)
