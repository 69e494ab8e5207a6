use Rattle.std.proofs.Common.{◌≡◌, ◌++◌, take}
use Rattle.uc_declared_types.specs.Counts.{written_counts}
use Rattle.uc_declared_types.proofs.counts.add_counts.Given as goal

abbrev pub invariant-loop-written : goal.invariant-loop-written
invariant-loop-written l = l.counts ≡ l.fn.counts ++ written_counts (take l.written-index l.enums)
