use Rattle.std.proofs.Common.{take}
use Rattle.uc_names.specs.TypeHomesNumbers.{AreNumbered}
use Rattle.uc_names.proofs.numbers.OpaqueNumbers.of_types.Given as goal

abbrev pub invariant-loop-number : goal.invariant-loop-number
invariant-loop-number l = AreNumbered l.numbers (take l.number l.types)
