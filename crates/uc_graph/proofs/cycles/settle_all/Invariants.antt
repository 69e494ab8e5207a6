use Rattle.uc_graph.specs.Settling.{Settles}
use Rattle.uc_graph.proofs.cycles.settle_all.Given as goal

abbrev pub invariant-loop-node : goal.invariant-loop-node
invariant-loop-node l = Settles l.graph l.fn.settled → Settles l.graph l.settled
