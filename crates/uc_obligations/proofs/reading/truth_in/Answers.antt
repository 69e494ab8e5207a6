use Rattle.uc_obligations.proofs.Read.{truth_none}
use Rattle.uc_obligations.proofs.reading.truth_in.Goals as goal

pub returns-in_default : goal.returns-in_default
returns-in_default c = truth_none c.args.value.now c.in_default.not-Bool
