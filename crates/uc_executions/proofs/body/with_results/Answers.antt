use Rattle.uc_executions.proofs.Declaring.{begins, declares_end, declares_more, declares_out}
use Rattle.uc_executions.proofs.body.with_results.Goals as goal

pub loop-parameter-init : goal.loop-parameter-init
loop-parameter-init c = λ m at. begins c.args.layout.now m c.args.choices.now c.args.results.now c.args.run

pub loop-parameter-preserved : goal.loop-parameter-preserved
loop-parameter-preserved c = λ m at. declares_more c.args.layout.now m c.args.choices.now c.args.results.now c.args.run c.loop-parameter.here c.loop-parameter.parameter-index (c.loop-parameter.invariant m at) at c.parameter-item.result c.parameter-item.result c.loop-parameter-test.true c.parameter-item.is c.from_ref-names.result.now c.from_ref-names.ensures.value c.in_ok-end.end c.in_ok-end.ensures c.in-Goes.next c.in-Goes.is

pub returns-in_default : goal.returns-in_default
returns-in_default c = λ m at. declares_out c.args.layout.now m c.args.choices.now c.args.results.now c.args.run c.loop-parameter.here c.loop-parameter.parameter-index (c.loop-parameter.invariant m at) at c.parameter-item.result c.parameter-item.result c.loop-parameter-test.true c.parameter-item.is c.from_ref-names.result.now c.from_ref-names.ensures.value c.in_ok-end.end c.in_ok-end.ensures c.in_default.not-Goes

pub returns : goal.returns
returns c = λ m at. declares_end c.args.layout.now m c.args.choices.now c.args.results.now c.args.run c.loop-parameter.here c.loop-parameter.parameter-index (c.loop-parameter.invariant m at) at c.loop-parameter-test.false
