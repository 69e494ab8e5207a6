use Rattle.std.proofs.Common.{◌≡◌, drop}
use Rattle.uc_meaning.specs.Operators.{implied}
use Rattle.uc_operators.proofs.truth.implied.Given as goal

abbrev pub invariant-loop-place : goal.invariant-loop-place
invariant-loop-place l = implied (drop l.place l.values) ≡ implied l.values
