use Rattle.uc_simplify.proofs.Sides.{Split}
use Rattle.uc_simplify.proofs.linear.split.Given as goal

abbrev pub invariant-loop-place : goal.invariant-loop-place
invariant-loop-place l = Split l.left.items l.right.items l.pairs l.place
