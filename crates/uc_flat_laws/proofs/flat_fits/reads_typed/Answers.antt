use Rattle.uc_flat_laws.proofs.Laws.{typed_hold}
use Rattle.uc_flat_laws.proofs.flat_fits.reads_typed.Goals as goal

pub returns : goal.returns
returns c = typed_hold
