use Rattle.uc_flat_laws.proofs.Sound.{own_types_hold}
use Rattle.uc_flat_laws.proofs.flat_sound.reads_own_types.Goals as goal

pub returns : goal.returns
returns c = own_types_hold
