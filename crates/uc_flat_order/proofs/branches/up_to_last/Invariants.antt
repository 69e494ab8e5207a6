use Rattle.std.proofs.Common.{◌≡◌, length}
use Rattle.uc_flat_order.specs.Slices.{up_to_last}
use Rattle.uc_flat_order.proofs.branches.up_to_last.Given as goal

abbrev pub invariant-loop-last : goal.invariant-loop-last
invariant-loop-last l = up_to_last l.all ≡ up_to_last l.fn.bodies

abbrev pub decreases-loop-last : goal.decreases-loop-last
decreases-loop-last l = length l.all
