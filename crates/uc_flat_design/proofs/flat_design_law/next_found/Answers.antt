use Rattle.uc_flat_design.proofs.Stepping.{found_holds}
use Rattle.uc_flat_design.proofs.flat_design_law.next_found.Goals as goal

pub returns : goal.returns
returns c = found_holds
