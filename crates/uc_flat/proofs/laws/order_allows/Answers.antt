use Rattle.uc_flat.proofs.Ordering.{order_allowed}
use Rattle.uc_flat.proofs.laws.order_allows.Goals as goal

pub returns : goal.returns
returns c = order_allowed
