use Rattle.std.proofs.Common.{◌∙◌}
use Rattle.uc_meaning.specs.Code.{name_now}
use Rattle.uc_runs.specs.Writes.{has_local}
use Rattle.uc_evaluator.proofs.Turns.{mapped_more, mapped_end}
use Rattle.uc_runs.proofs.RunFormsCalls.{each_is, results_are}
use Rattle.uc_runs.proofs.call.result_values.Goals as goal

pub local_value-requires : goal.local_value-requires
local_value-requires c =
    each_is (λ p. has_local c.args.scope.now.locals p.identifier.name) c.args.results.now c.loop-parameter.parameter-index c.parameter-item.result c.requires c.loop-parameter-test.true c.parameter-item.is

pub loop-parameter-preserved : goal.loop-parameter-preserved
loop-parameter-preserved c =
    mapped_more (λ p. (name_now c.args.layout.now c.args.scope.now p.identifier.name).value) c.args.results.now c.loop-parameter.parameter-index c.parameter-item.result c.parameter-item.result
    c.loop-parameter.values c.push.new.self c.in_ok-value.value c.loop-parameter-test.true c.parameter-item.is c.in_ok-value.ensures c.loop-parameter.invariant c.in_ok-push.ensures.ok

pub returns : goal.returns
returns c =
    mapped_end (λ p. (name_now c.args.layout.now c.args.scope.now p.identifier.name).value) c.args.results.now c.loop-parameter.parameter-index c.loop-parameter.values c.loop-parameter-test.false c.loop-parameter.invariant
    ∙ results_are c.args.layout.now c.args.scope.now c.args.results.now
