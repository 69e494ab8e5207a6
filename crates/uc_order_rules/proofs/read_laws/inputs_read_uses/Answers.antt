use Rattle.uc_order_rules.proofs.Through.{inputs_read_uses}
use Rattle.uc_order_rules.proofs.read_laws.inputs_read_uses.Goals as goal

pub returns : goal.returns
returns c = inputs_read_uses
