use Rattle.std.proofs.Common.{◌≡◌, drop}
use Rattle.uc_values.specs.Tables.{same_scalars}
use Rattle.uc_values.proofs.table.same_scalars.Given as goal

abbrev pub invariant-loop-place : goal.invariant-loop-place
invariant-loop-place l = same_scalars l.left l.right ≡ same_scalars (drop l.place l.left) (drop l.place l.right)
