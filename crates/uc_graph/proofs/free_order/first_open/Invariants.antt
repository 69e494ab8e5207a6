use Rattle.std.proofs.Common.{◌≡◌, ℕ, true, take}
use Rattle.std.specs.Prelude.{slice_index_or}
use Rattle.uc_graph.specs.Order.{has}
use Rattle.uc_graph.proofs.free_order.first_open.Given as goal

abbrev pub invariant-loop-need : goal.invariant-loop-need
invariant-loop-need l = (m : ℕ) → has (take l.need-index l.needs) m ≡ true → (m ≡ l.place → ⊥) → slice_index_or l.flags m true ≡ true
