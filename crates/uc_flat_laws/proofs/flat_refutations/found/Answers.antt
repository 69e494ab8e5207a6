use Rattle.uc_flat_laws.proofs.Traces.{found_holds}
use Rattle.uc_flat_laws.proofs.flat_refutations.found.Goals as goal

pub returns : goal.returns
returns c = found_holds
