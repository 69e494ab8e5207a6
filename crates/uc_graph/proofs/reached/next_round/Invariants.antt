use Rattle.std.proofs.Common.{take, []}
use Rattle.uc_graph.specs.Taking.{Takes, edge_from}
use Rattle.uc_graph.proofs.reached.next_round.Given as goal

abbrev pub invariant-loop-node : goal.invariant-loop-node
invariant-loop-node l = Takes (edge_from l.graph (take l.node-index l.fresh)) l.fn.left [] l.left l.next
