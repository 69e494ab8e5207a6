use Rattle.std.proofs.Common.{take}
use Rattle.uc_graph.specs.Order.{has}
use Rattle.uc_graph.specs.Settling.{Sets}
use Rattle.uc_graph.proofs.settled.set_all.Given as goal

abbrev pub invariant-loop-node : goal.invariant-loop-node
invariant-loop-node l = Sets (has (take l.node-index l.nodes)) l.fn.flags l.flags
