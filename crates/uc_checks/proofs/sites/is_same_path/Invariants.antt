use Rattle.std.proofs.Common.{◌≡◌, drop}
use Rattle.uc_meaning.specs.Cells.{same_path}
use Rattle.uc_checks.proofs.sites.is_same_path.Given as goal

abbrev pub invariant-loop-place : goal.invariant-loop-place
invariant-loop-place l = same_path (drop l.place l.left) (drop l.place l.right) ≡ same_path l.left l.right
