use Rattle.std.proofs.Common.{◌≡◌, length}
use Rattle.uc_solve_rows.proofs.passing.digits.Given as goal

abbrev pub invariant-loop-place : goal.invariant-loop-place
invariant-loop-place l = length l.digits.items ≡ l.place
