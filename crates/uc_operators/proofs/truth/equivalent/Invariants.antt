use Rattle.std.proofs.Common.{◌≡◌, drop}
use Rattle.uc_meaning.specs.Operators.{equivalent_from, equivalent}
use Rattle.uc_operators.proofs.truth.equivalent.Given as goal

abbrev pub invariant-loop-value : goal.invariant-loop-value
invariant-loop-value l = equivalent_from l.truth (drop l.value-index l.values) ≡ equivalent l.values
