use Rattle.std.proofs.Common.{◌≡◌, ◌-◌, ◌++◌}
use Rattle.uc_values.specs.Values.{indices}
use Rattle.uc_ops.specs.Differences.{unlisted, unlisted_from}
use Rattle.uc_ops.proofs.difference.unlisted.Given as goal

abbrev pub invariant-loop-place : goal.invariant-loop-place
invariant-loop-place l = unlisted l.ty (indices l.rows ++ indices l.others) ≡ unlisted_from l.ty (indices l.rows ++ indices l.others) l.place (l.limit - l.place)
