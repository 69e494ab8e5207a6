use Rattle.std.proofs.Common.{◌≡◌, ℕ, take}
use Rattle.std.specs.Prelude.{◌||◌}
use Rattle.uc_graph.specs.Order.{has}
use Rattle.uc_graph.proofs.free_order.wake.Given as goal

abbrev pub invariant-loop-place : goal.invariant-loop-place
invariant-loop-place l = (n : ℕ) → has l.ready n ≡ (has l.initial.ready n || has (take l.place-index l.waiting) n)
