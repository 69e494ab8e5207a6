use Rattle.uc_flat_design.proofs.Laws.{initial_holds}
use Rattle.uc_flat_design.proofs.flat_design_law.initial_states.Goals as goal

pub returns : goal.returns
returns c = initial_holds
