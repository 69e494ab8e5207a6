use Rattle.std.proofs.Common.{◌+◌}
use Rattle.uc_graph.specs.NeededFirstSteady.{IsSized, Steady, open_count}
use Rattle.uc_graph.proofs.Counts.{one_if_any}
use Rattle.uc_graph.proofs.needed_order.needed_first.Given as goal

abbrev pub invariant-rounds : goal.invariant-rounds
invariant-rounds l = record {
  sized : IsSized l.graph l.settling.flags l.settling.passed l.settling.parked;
  steady : Steady l.graph l.settling.flags l.settling.passed l.settling.parked l.settling.order l.ready;
}

abbrev pub decreases-rounds : goal.decreases-rounds
decreases-rounds l = open_count l.settling.flags + one_if_any l.ready
