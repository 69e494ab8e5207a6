use Rattle.uc_flat.proofs.Executing.{initial_is}
use Rattle.uc_flat.proofs.laws.initial_states.Goals as goal

pub returns : goal.returns
returns c = initial_is
