use Rattle.std.proofs.Common.{◌≡◌, ◌++◌, take}
use Rattle.uc_graph.proofs.settling.wake.Given as goal

abbrev pub invariant-loop-node : goal.invariant-loop-node
invariant-loop-node l = l.woken ≡ l.initial.woken ++ take l.node-index l.parked
