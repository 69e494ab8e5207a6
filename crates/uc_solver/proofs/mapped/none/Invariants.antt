use Rattle.std.proofs.Common.{ℕ, ◌≡◌, length, [], get_or}
use Rattle.uc_solver.proofs.mapped.none.Given as goal

abbrev pub invariant-loop-place : goal.invariant-loop-place
invariant-loop-place l = record {
  long : length l.lists.items ≡ l._place;
  empty : (k : ℕ) → get_or l.lists.items k [] ≡ [];
}
