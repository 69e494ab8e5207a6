use Rattle.std.proofs.Common.{◌+◌, length}
use Rattle.uc_graph.specs.Taking.{Spreads, left_count}
use Rattle.uc_graph.proofs.reached.take_reached.Given as goal

abbrev pub invariant-rounds : goal.invariant-rounds
invariant-rounds l = Spreads l.graph l.fn.left l.starts l.left l.found l.fresh

abbrev pub decreases-rounds : goal.decreases-rounds
decreases-rounds l = left_count l.left + length l.fresh
