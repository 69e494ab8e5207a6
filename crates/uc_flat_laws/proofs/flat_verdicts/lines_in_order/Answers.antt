use Rattle.uc_flat_laws.proofs.Judged.{order_holds}
use Rattle.uc_flat_laws.proofs.flat_verdicts.lines_in_order.Goals as goal

pub returns : goal.returns
returns c = order_holds
