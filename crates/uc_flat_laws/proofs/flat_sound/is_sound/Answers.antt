use Rattle.uc_flat_laws.proofs.Sound.{sound_holds}
use Rattle.uc_flat_laws.proofs.flat_sound.is_sound.Goals as goal

pub returns : goal.returns
returns c = sound_holds
