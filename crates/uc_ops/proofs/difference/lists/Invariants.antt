use Rattle.std.proofs.Common.{◌≡◌, drop}
use Rattle.uc_values.specs.Values.{lists, indices}
use Rattle.uc_ops.proofs.difference.lists.Given as goal

abbrev pub invariant-loop-place : goal.invariant-loop-place
invariant-loop-place l = lists (indices l.rows) l.index ≡ lists (indices (drop l.place-index l.rows)) l.index
