use Rattle.uc_flat.proofs.Executing.{step_found}
use Rattle.uc_flat.proofs.laws.steps_found.Goals as goal

pub returns : goal.returns
returns c = step_found
