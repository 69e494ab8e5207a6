use Rattle.uc_flat_design.proofs.Laws.{step_holds}
use Rattle.uc_flat_design.proofs.flat_design_law.steps.Goals as goal

pub returns : goal.returns
returns c = step_holds
