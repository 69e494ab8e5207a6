use Rattle.std.proofs.Common.{◌∙◌, ap}
use Rattle.uc_meaning.specs.Code.{Goes, in_scope, keep_locals}
use Rattle.uc_runs.proofs.Places.{behind}
use Rattle.uc_runs.proofs.run_forms_local.ended_block.Goals as goal

pub returns-in_ok-run-in-Goes : goal.returns-in_ok-run-in-Goes
returns-in_ok-run-in-Goes c = λ choices. ap Goes (c.in_ok-run-in-Goes.ensures choices) ∙ behind choices c.args.end _ (λ r. Goes (in_scope r (keep_locals c.args.older r.scope))) c.in-Goes.is

pub returns-in-Stopped : goal.returns-in-Stopped
returns-in-Stopped c = λ choices. behind choices c.args.end _ (λ r. Goes (in_scope r (keep_locals c.args.older r.scope))) c.in-Stopped.is

pub returns-in-BadChoice : goal.returns-in-BadChoice
returns-in-BadChoice c = λ choices. behind choices c.args.end _ (λ r. Goes (in_scope r (keep_locals c.args.older r.scope))) c.in-BadChoice.is
