use Rattle.uc_flat_design.proofs.Walk.{init_code_means}
use Rattle.uc_flat_design.proofs.flat_init_law.init_means.Goals as goal

pub returns : goal.returns
returns c = init_code_means
