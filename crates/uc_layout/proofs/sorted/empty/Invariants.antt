use Rattle.std.proofs.Common.{◌≡◌, ℕ, [], length}
use Rattle.uc_layout.specs.Kept.{lent}
use Rattle.uc_layout.specs.Sorted.{list_at}
use Rattle.uc_layout.proofs.sorted.empty.Given as goal

abbrev pub invariant-loop : goal.invariant-loop
invariant-loop l = record {
  count : length l.cells.items ≡ l.counter;
  empty : (k : ℕ) → lent (list_at l.cells.items k) ≡ [];
}
