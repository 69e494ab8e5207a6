use Rattle.uc_flat_design.proofs.Meaning.{constants_hold}
use Rattle.uc_flat_design.proofs.flat_names.constants_mean.Goals as goal

pub returns : goal.returns
returns c = constants_hold
