use Rattle.uc_flat_laws.proofs.Initial.{init_typed_holds}
use Rattle.uc_flat_laws.proofs.flat_fits.init_typed.Goals as goal

pub returns : goal.returns
returns c = init_typed_holds
