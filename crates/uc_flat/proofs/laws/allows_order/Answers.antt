use Rattle.uc_flat.proofs.Ordering.{allowed_order}
use Rattle.uc_flat.proofs.laws.allows_order.Goals as goal

pub returns : goal.returns
returns c = allowed_order
