use Rattle.std.proofs.Common.{true}
use Rattle.uc_graph.proofs.Places.{index_past}
use Rattle.uc_graph.proofs.free_order.is_settled.Goals as goal

pub returns-in-None : goal.returns-in-None
returns-in-None c = index_past c.args.flags.now c.args.place true c.in-None.ensures.value
