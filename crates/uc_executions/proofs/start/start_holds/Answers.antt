use Rattle.uc_executions.proofs.Initial.{start_answer}
use Rattle.uc_executions.proofs.start.start_holds.Goals as goal

pub returns-clause-value : goal.returns-clause-value
returns-clause-value c =
    start_answer c.args.layout.now c.args.interp.now c.args.state.now c.args.choices.now c.in_ok-end.end c.sites_at.result c.in_ok-end.ensures.value c.sites_at.ensures
