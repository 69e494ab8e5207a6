use Rattle.std.proofs.Common.{◌≡◌, length}
use Rattle.uc_graph.specs.FirstFreeSteady.{Steady}
use Rattle.uc_graph.proofs.free_order.Settling.next_free.Given as goal

abbrev pub invariant-turns : goal.invariant-turns
invariant-turns l = record {
  steady : Steady l.graph l.self.flags l.self.waiting l.self.ready;
  flags : l.self.flags ≡ l.initial.self.flags;
  order : l.self.order ≡ l.initial.self.order;
}

abbrev pub decreases-turns : goal.decreases-turns
decreases-turns l = length l.self.ready
