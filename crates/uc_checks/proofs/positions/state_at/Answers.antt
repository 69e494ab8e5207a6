use Rattle.std.proofs.Common.{◌∙◌}
use Rattle.uc_executions.proofs.Truths.{no_position_at}
use Rattle.uc_checks.proofs.positions.state_at.Goals as goal

pub returns-in-None : goal.returns-in-None
returns-in-None c = λ none. none ∙ no_position_at c.args.position c.args.copy.now c.in-None.ensures
