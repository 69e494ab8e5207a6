use Rattle.std.proofs.Common.{◌≡◌, map, take}
use Rattle.uc_rules.specs.Expressions.{judged}
use Rattle.uc_expression_rules.proofs.judging.are_plain.Given as goal

abbrev pub invariant-loop-expression : goal.invariant-loop-expression
invariant-loop-expression l = l.plains ≡ map (λ e. (judged e l.scope).plain) (take l.expression-index l.expressions)
