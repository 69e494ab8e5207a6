use Rattle.std.proofs.Common.{◌≡◌, length}
use Rattle.uc_flat_code.specs.Code.{joined_arms}
use Rattle.uc_flat_code.proofs.code.joined_arms.Given as goal

abbrev pub invariant-loop-arm : goal.invariant-loop-arm
invariant-loop-arm l = joined_arms l.left l.whole ≡ joined_arms l.fn.arms l.fn.rest

abbrev pub decreases-loop-arm : goal.decreases-loop-arm
decreases-loop-arm l = length l.left
