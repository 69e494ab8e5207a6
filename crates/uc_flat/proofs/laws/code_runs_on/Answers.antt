use Rattle.uc_flat.proofs.Finding.{runs_drawn}
use Rattle.uc_flat.proofs.laws.code_runs_on.Goals as goal

pub returns : goal.returns
returns c = runs_drawn
