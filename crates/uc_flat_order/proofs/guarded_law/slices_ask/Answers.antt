use Rattle.uc_flat_order.proofs.Asked.{slices_law}
use Rattle.uc_flat_order.proofs.guarded_law.slices_ask.Goals as goal

pub returns : goal.returns
returns c = slices_law
