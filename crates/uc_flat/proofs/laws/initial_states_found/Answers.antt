use Rattle.uc_flat.proofs.Executing.{initial_found}
use Rattle.uc_flat.proofs.laws.initial_states_found.Goals as goal

pub returns : goal.returns
returns c = initial_found
