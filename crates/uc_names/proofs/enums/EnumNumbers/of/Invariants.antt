use Rattle.std.proofs.Common.{take}
use Rattle.uc_names.specs.ModuleNamesNumbers.{AreNumbered}
use Rattle.uc_names.proofs.enums.EnumNumbers.of.Given as goal

abbrev pub invariant-loop-number : goal.invariant-loop-number
invariant-loop-number l = AreNumbered l.numbers (take l.number l.enums)
