use Rattle.uc_flat.proofs.Extending.{kept}
use Rattle.uc_flat.proofs.laws.keeps.Goals as goal

pub returns : goal.returns
returns c = kept
