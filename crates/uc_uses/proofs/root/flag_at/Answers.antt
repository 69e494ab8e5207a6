use Rattle.std.proofs.Common.{false}
use Rattle.uc_graph.proofs.Places.{index_found, index_past}
use Rattle.uc_uses.proofs.root.flag_at.Goals as goal

pub returns-in-None : goal.returns-in-None
returns-in-None c = index_past c.args.flags.now c.args.number false c.in-None.ensures.value

pub returns-in-Some : goal.returns-in-Some
returns-in-Some c = index_found c.args.flags.now c.args.number c.in-Some.flag.now false c.in-Some.ensures.value
