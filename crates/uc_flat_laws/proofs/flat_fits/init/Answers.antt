use Rattle.uc_flat_laws.proofs.Initial.{init_holds}
use Rattle.uc_flat_laws.proofs.flat_fits.init.Goals as goal

pub returns : goal.returns
returns c = init_holds
