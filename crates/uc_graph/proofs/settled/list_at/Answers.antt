use Rattle.std.proofs.Common.{[]}
use Rattle.uc_graph.proofs.Places.{index_past}
use Rattle.uc_graph.proofs.settled.list_at.Goals as goal

pub returns-in-None : goal.returns-in-None
returns-in-None c = index_past c.args.graph.now c.args.node [] c.in-None.ensures
