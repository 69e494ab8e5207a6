use Rattle.uc_flat_design.proofs.Meaning.{names_hold}
use Rattle.uc_flat_design.proofs.flat_names.names_mean.Goals as goal

pub returns : goal.returns
returns c = names_hold
