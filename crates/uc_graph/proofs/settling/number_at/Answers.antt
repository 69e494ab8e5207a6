use Rattle.uc_graph.proofs.Places.{index_past}
use Rattle.uc_graph.proofs.settling.number_at.Goals as goal

pub returns-in-None : goal.returns-in-None
returns-in-None c = index_past c.args.numbers.now c.args.k 0 c.in-None.ensures.value
