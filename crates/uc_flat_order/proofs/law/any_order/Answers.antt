use Rattle.uc_flat_order.proofs.Pairs.{order_holds}
use Rattle.uc_flat_order.proofs.law.any_order.Goals as goal

pub returns : goal.returns
returns c = order_holds
