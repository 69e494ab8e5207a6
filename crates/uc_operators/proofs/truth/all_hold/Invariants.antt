use Rattle.std.proofs.Common.{◌≡◌, drop}
use Rattle.uc_meaning.specs.Operators.{all_hold}
use Rattle.uc_operators.proofs.truth.all_hold.Given as goal

abbrev pub invariant-loop-value : goal.invariant-loop-value
invariant-loop-value l = all_hold (drop l.value-index l.values) ≡ all_hold l.values
