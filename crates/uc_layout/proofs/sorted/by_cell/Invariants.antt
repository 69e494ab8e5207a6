use Rattle.std.proofs.Common.{◌≡◌, ℕ, ◌<◌, ◌++◌, length, drop, map}
use Rattle.uc_layout.specs.Kept.{lent, cell_part, written_in}
use Rattle.uc_layout.specs.Sorted.{list_at}
use Rattle.uc_layout.proofs.sorted.by_cell.Given as goal

abbrev pub invariant-loop-part : goal.invariant-loop-part
invariant-loop-part l = record {
  count : length l.cells.items ≡ l.count;
  sorted : (k : ℕ) → k < l.count → lent (list_at l.cells.items k) ++ written_in k (map cell_part (drop l.part-index l.written)) ≡ written_in k (map cell_part l.written);
}
