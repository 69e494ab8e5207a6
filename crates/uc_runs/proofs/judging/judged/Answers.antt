use Rattle.uc_runs.proofs.Sites.{comes_with}
use Rattle.uc_runs.proofs.judging.judged.Goals as goal

pub returns-clause-value : goal.returns-clause-value
returns-clause-value c = comes_with c.args.run c.in_ok-run.run' c.in_ok-holds.holds _ c.args.place c.args.number c.in_ok-holds.ensures.value c.in_ok-run.ensures
