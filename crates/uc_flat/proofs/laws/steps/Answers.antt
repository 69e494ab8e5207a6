use Rattle.uc_flat.proofs.Executing.{step_is}
use Rattle.uc_flat.proofs.laws.steps.Goals as goal

pub returns : goal.returns
returns c = step_is
