use Rattle.uc_graph.proofs.Takings.{takes_no_edges}
use Rattle.uc_graph.proofs.reached.take_needs.Goals as goal

pub returns-in-None : goal.returns-in-None
returns-in-None c = takes_no_edges c.args.graph.now c.args.node c.args.left.now c.args.taken.now c.in-None.ensures
