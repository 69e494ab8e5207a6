use Rattle.uc_flat.proofs.Extending.{extended}
use Rattle.uc_flat.proofs.laws.extends.Goals as goal

pub returns : goal.returns
returns c = extended
