use Rattle.uc_flat_laws.proofs.Laws.{step_holds}
use Rattle.uc_flat_laws.proofs.flat_fits.step.Goals as goal

pub returns : goal.returns
returns c = step_holds
