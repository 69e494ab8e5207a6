use Rattle.std.proofs.Common.{◌≡◌, drop}
use Rattle.uc_values.specs.Values.{indices}
use Rattle.uc_ops.specs.Differences.{first_difference}
use Rattle.uc_ops.proofs.difference.first_difference.Given as goal

abbrev pub invariant-loop-index : goal.invariant-loop-index
invariant-loop-index l = first_difference l.element l.left l.right (indices l.rows) ≡ first_difference l.element l.left l.right (indices (drop l.index-index l.rows))
