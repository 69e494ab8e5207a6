use Rattle.uc_flat_order.proofs.Used.{GraphUpTo}
use Rattle.uc_flat_order.proofs.uses.needs_graph.Given as goal

abbrev pub invariant-loop-own : goal.invariant-loop-own
invariant-loop-own l = GraphUpTo l.uses l.own-index l.graph
