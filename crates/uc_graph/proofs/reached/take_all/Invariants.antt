use Rattle.std.proofs.Common.{take}
use Rattle.uc_graph.specs.Order.{has}
use Rattle.uc_graph.specs.Taking.{Takes}
use Rattle.uc_graph.proofs.reached.take_all.Given as goal

abbrev pub invariant-loop-node : goal.invariant-loop-node
invariant-loop-node l = Takes (has (take l.node-index l.nodes)) l.fn.left l.fn.taken l.left l.taken
