use Rattle.std.proofs.Common.{◌∙◌, ap}
use Rattle.uc_meaning.specs.Code.{Goes, in_scope, write_all, results}
use Rattle.uc_runs.specs.Runs.{with_locals}
use Rattle.uc_runs.proofs.Places.{behind}
use Rattle.uc_runs.proofs.call.returned.Goals as goal

pub returns-in_ok-run-in-Goes-clause-value : goal.returns-in_ok-run-in-Goes-clause-value
returns-in_ok-run-in-Goes-clause-value c =
    λ choices. ap Goes (c.in_ok-run-in-Goes.ensures.value choices)
    ∙ behind choices c.args.ended _ (λ r. Goes (in_scope r (write_all c.args.layout.now c.args.targets.now (results c.args.layout.now r.scope c.args.results.now) (with_locals r.scope c.args.caller)))) c.in-Goes.is

pub returns-in-Stopped-clause-value : goal.returns-in-Stopped-clause-value
returns-in-Stopped-clause-value c =
    λ choices. behind choices c.args.ended _ (λ r. Goes (in_scope r (write_all c.args.layout.now c.args.targets.now (results c.args.layout.now r.scope c.args.results.now) (with_locals r.scope c.args.caller)))) c.in-Stopped.is

pub returns-in-BadChoice-clause-value : goal.returns-in-BadChoice-clause-value
returns-in-BadChoice-clause-value c =
    λ choices. behind choices c.args.ended _ (λ r. Goes (in_scope r (write_all c.args.layout.now c.args.targets.now (results c.args.layout.now r.scope c.args.results.now) (with_locals r.scope c.args.caller)))) c.in-BadChoice.is
