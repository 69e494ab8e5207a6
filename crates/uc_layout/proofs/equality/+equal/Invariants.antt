use Rattle.std.proofs.Common.{◌≡◌, take}
use Rattle.uc_layout.proofs.equality.+equal.Given as goal

abbrev pub invariant-equal_all-loop-place : goal.invariant-equal_all-loop-place
invariant-equal_all-loop-place l = take l.place l.left ≡ take l.place l.right

abbrev pub invariant-equal_rows-loop-place : goal.invariant-equal_rows-loop-place
invariant-equal_rows-loop-place l = take l.place l.left ≡ take l.place l.right
