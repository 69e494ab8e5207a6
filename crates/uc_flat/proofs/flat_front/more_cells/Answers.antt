use Rattle.uc_flat.proofs.Front.{front_holds}
use Rattle.uc_flat.proofs.flat_front.more_cells.Goals as goal

pub returns : goal.returns
returns c = front_holds
