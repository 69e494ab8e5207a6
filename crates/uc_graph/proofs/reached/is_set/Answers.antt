use Rattle.std.proofs.Common.{false}
use Rattle.uc_graph.proofs.Places.{index_past}
use Rattle.uc_graph.proofs.reached.is_set.Goals as goal

pub returns-in-None : goal.returns-in-None
returns-in-None c = index_past c.args.left.now c.args.node false c.in-None.ensures.value
