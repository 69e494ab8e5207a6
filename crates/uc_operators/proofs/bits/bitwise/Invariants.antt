use Rattle.std.proofs.Common.{◌≡◌, drop}
use Rattle.uc_meaning.specs.Operators.{chained_from, chained}
use Rattle.uc_operators.specs.Bits.{combined}
use Rattle.uc_operators.proofs.bits.bitwise.Given as goal

abbrev pub invariant-loop-place : goal.invariant-loop-place
invariant-loop-place l = chained_from (combined l.operator) l.total (drop l.place l.values) ≡ chained (combined l.operator) l.values
