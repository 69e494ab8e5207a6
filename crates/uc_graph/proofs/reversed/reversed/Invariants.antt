use Rattle.uc_graph.proofs.Reversing.{ReversedTo}
use Rattle.uc_graph.proofs.reversed.reversed.Given as goal

abbrev pub invariant-loop-node : goal.invariant-loop-node
invariant-loop-node l = ReversedTo l.graph l.node l.back
