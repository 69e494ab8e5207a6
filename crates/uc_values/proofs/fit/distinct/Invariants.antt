use Rattle.std.proofs.Common.{◌≡◌, drop}
use Rattle.uc_values.specs.Values.{distinct, indices}
use Rattle.uc_values.proofs.fit.distinct.Given as goal

abbrev pub invariant-loop-place : goal.invariant-loop-place
invariant-loop-place l = distinct (indices l.rows) ≡ distinct (indices (drop l.place l.rows))
