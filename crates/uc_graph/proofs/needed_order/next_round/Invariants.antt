use Rattle.std.proofs.Common.{◌++◌, drop, []}
use Rattle.uc_graph.specs.NeededFirstSteady.{IsFewer, IsSized, Steady}
use Rattle.uc_graph.proofs.needed_order.next_round.Given as goal

abbrev pub invariant-loop-node : goal.invariant-loop-node
invariant-loop-node l = record {
  sized : IsSized l.graph l.settling.flags l.settling.passed l.settling.parked;
  steady : Steady l.graph l.fn.settling.flags l.fn.settling.passed l.fn.settling.parked l.fn.settling.order l.ready → Steady l.graph l.settling.flags l.settling.passed l.settling.parked l.settling.order (drop l.node-index l.ready ++ l.woken);
  fewer : IsFewer l.fn.settling.flags [] l.settling.flags l.woken;
}
