use Rattle.uc_solver.proofs.Blastable.{blastable}
use Rattle.uc_solver.proofs.law.lowered_is_blastable.Goals as goal

pub returns : goal.returns
returns c = blastable
