use Rattle.std.proofs.Common.{List, rules}
use Rattle.uc_values.specs.declared.value.Value.{Value}
use Rattle.uc_meaning.specs.Expressions.{value}
use Rattle.uc_meaning.specs.Overflow.{met}
use Rattle.uc_evaluator.proofs.Turns.{all_more, all_told, all_end, mapped_more, mapped_end}
use Rattle.uc_runs.proofs.targets_assignment.values.Goals as goal

pub returns-in_err-value-clause-wide : goal.returns-in_err-value-clause-wide
returns-in_err-value-clause-wide c =
    let told = all_told (met c.args.layout.now c.args.scope.now) c.args.expressions.now c.loop-expression.expression-index Value (List Value) c.expression-item.result c.expression-item.result c.in_err-value.field-0.0
    c.loop-expression-test.true c.expression-item.is c.loop-expression.invariant.wide c.in_err-value.ensures.wide in
    search (rules, told)

pub loop-expression-preserved : goal.loop-expression-preserved
loop-expression-preserved c = record {
  values = mapped_more (value c.args.layout.now c.args.scope.now) c.args.expressions.now c.loop-expression.expression-index c.expression-item.result c.expression-item.result
      c.loop-expression.values c.push.new.self c.in_ok-value.value c.loop-expression-test.true c.expression-item.is c.in_ok-value.ensures.value c.loop-expression.invariant.values c.in_ok-push.ensures.ok;
  wide = all_more (met c.args.layout.now c.args.scope.now) c.args.expressions.now c.loop-expression.expression-index c.expression-item.result c.expression-item.result
      c.loop-expression-test.true c.expression-item.is c.loop-expression.invariant.wide c.in_ok-value.ensures.wide;
}

pub returns-clause-value : goal.returns-clause-value
returns-clause-value c =
    mapped_end (value c.args.layout.now c.args.scope.now) c.args.expressions.now c.loop-expression.expression-index c.loop-expression.values c.loop-expression-test.false c.loop-expression.invariant.values

pub returns-clause-wide : goal.returns-clause-wide
returns-clause-wide c =
    all_end (met c.args.layout.now c.args.scope.now) c.args.expressions.now c.loop-expression.expression-index c.loop-expression-test.false c.loop-expression.invariant.wide
