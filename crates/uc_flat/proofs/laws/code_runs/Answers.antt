use Rattle.uc_flat.proofs.Choosing.{drawn_runs}
use Rattle.uc_flat.proofs.laws.code_runs.Goals as goal

pub returns : goal.returns
returns c = drawn_runs
