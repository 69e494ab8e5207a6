use Rattle.uc_flat.proofs.Constants.{same_drawn}
use Rattle.uc_flat.proofs.laws.reads_constants.Goals as goal

pub returns : goal.returns
returns c = same_drawn
