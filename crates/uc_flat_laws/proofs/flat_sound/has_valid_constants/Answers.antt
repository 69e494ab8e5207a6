use Rattle.uc_flat_laws.proofs.Sound.{valid_constants_hold}
use Rattle.uc_flat_laws.proofs.flat_sound.has_valid_constants.Goals as goal

pub returns : goal.returns
returns c = valid_constants_hold
