use Rattle.uc_graph.proofs.GraphCyclesSteps.{SettlesTo}
use Rattle.uc_graph.proofs.cycles.on_cycles.Given as goal

abbrev pub invariant-loop-node : goal.invariant-loop-node
invariant-loop-node l = SettlesTo l.graph l.node l.settled
