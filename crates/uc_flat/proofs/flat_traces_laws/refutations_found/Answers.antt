use Rattle.uc_flat.proofs.FlatTracesFinding.{found}
use Rattle.uc_flat.proofs.flat_traces_laws.refutations_found.Goals as goal

pub returns : goal.returns
returns c = found
