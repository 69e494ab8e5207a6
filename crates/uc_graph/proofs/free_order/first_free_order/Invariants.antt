use Rattle.std.proofs.Common.{length}
use Rattle.uc_graph.specs.FirstFreeSteady.{Steady, IsSoFar, open_from}
use Rattle.uc_graph.proofs.free_order.first_free_order.Given as goal

abbrev pub invariant-places : goal.invariant-places
invariant-places l = record {
  steady : Steady l.graph l.settling.flags l.settling.waiting l.settling.ready;
  so_far : IsSoFar l.graph l.settling.flags l.settling.order;
}

abbrev pub decreases-places : goal.decreases-places
decreases-places l = length (open_from 0 l.settling.flags)
