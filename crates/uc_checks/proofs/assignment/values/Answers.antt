use Rattle.std.proofs.Common.{List, ap, ◌∙◌, rules}
use Rattle.uc_values.specs.declared.value.Value.{Value}
use Rattle.uc_meaning.specs.Expressions.{value}
use Rattle.uc_meaning.specs.Overflow.{met}
use Rattle.uc_readings.specs.Scopes.{scope_in}
use Rattle.uc_readings.specs.declared.said.Said.{Said}
use Rattle.uc_evaluator.proofs.Turns.{all_more, all_told, mapped_more}
use Rattle.uc_checks.proofs.assignment.values.Goals as goal

pub returns-in_err-said-clause-wide : goal.returns-in_err-said-clause-wide
returns-in_err-said-clause-wide c =
    let told = all_told (met c.args.layout.now (scope_in c.args.scope.now)) c.args.expressions.now c.loop-expression.expression-index Said (List Value) c.expression-item.result c.expression-item.result c.in_err-said.field-0.0
    c.loop-expression-test.true c.expression-item.is c.loop-expression.invariant.wide c.in_err-said.ensures.wide in
    search (rules, told)

pub loop-expression-preserved : goal.loop-expression-preserved
loop-expression-preserved c = record {
  values = mapped_more (value c.args.layout.now (scope_in c.args.scope.now)) c.args.expressions.now c.loop-expression.expression-index c.expression-item.result c.expression-item.result
      c.loop-expression.values c.push.new.self c.value_of.result c.loop-expression-test.true c.expression-item.is (c.value_of.ensures ∙ ap (λ r. r.value) c.in_ok-said.ensures.value) c.loop-expression.invariant.values c.in_ok-push.ensures.ok;
  wide = all_more (met c.args.layout.now (scope_in c.args.scope.now)) c.args.expressions.now c.loop-expression.expression-index c.expression-item.result c.expression-item.result
      c.loop-expression-test.true c.expression-item.is c.loop-expression.invariant.wide c.in_ok-said.ensures.wide;
}
