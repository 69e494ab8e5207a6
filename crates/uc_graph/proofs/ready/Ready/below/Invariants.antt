use Rattle.std.proofs.Common.{◌≡◌, ℕ, ◌<◌, true}
use Rattle.uc_graph.specs.Order.{has}
use Rattle.uc_graph.proofs.ready.Ready.below.Given as goal

abbrev pub invariant-loop-number : goal.invariant-loop-number
invariant-loop-number l = (n : ℕ) → n < l.number → has l.ready n ≡ true
