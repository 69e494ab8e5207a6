use Rattle.uc_flat_laws.proofs.Laws.{reads_hold}
use Rattle.uc_flat_laws.proofs.flat_fits.reads.Goals as goal

pub returns : goal.returns
returns c = reads_hold
