use Rattle.std.proofs.Common.{◌≡◌, drop}
use Rattle.uc_meaning.specs.Operators.{any_holds}
use Rattle.uc_operators.proofs.truth.any_holds.Given as goal

abbrev pub invariant-loop-value : goal.invariant-loop-value
invariant-loop-value l = any_holds (drop l.value-index l.values) ≡ any_holds l.values
