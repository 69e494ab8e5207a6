use Rattle.std.proofs.Common.{take}
use Rattle.uc_linear.specs.Tightening.{IsGreatestDivisor}
use Rattle.uc_linear.proofs.divisor.greatest_divisor.Given as goal

abbrev pub invariant-loop-coefficient : goal.invariant-loop-coefficient
invariant-loop-coefficient l = IsGreatestDivisor l.divisor (take l.coefficient-index l.pairs)
