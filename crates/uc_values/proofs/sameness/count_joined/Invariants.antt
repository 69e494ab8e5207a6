use Rattle.std.proofs.Common.{◌≡◌, ◌+◌, ◌≤◌, drop, length}
use Rattle.uc_values.specs.Values.{indices}
use Rattle.uc_values.specs.Sameness.{joined}
use Rattle.uc_values.proofs.sameness.count_joined.Given as goal

abbrev pub invariant-loop-index : goal.invariant-loop-index
invariant-loop-index l =
    (l.count + length (joined (indices (drop l.index-index l.rows)) (indices l.others)) ≡ length (joined (indices l.rows) (indices l.others)) + length l.others)
    × (l.count ≤ length l.others + l.index-index)
