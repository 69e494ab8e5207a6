use Rattle.uc_flat_design.proofs.Stepping.{asks_holds}
use Rattle.uc_flat_design.proofs.flat_design_law.next_asks.Goals as goal

pub returns : goal.returns
returns c = asks_holds
