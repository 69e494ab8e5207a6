use Rattle.std.proofs.Common.{take}
use Rattle.uc_names.specs.ModuleNamesNumbers.{AreModules}
use Rattle.uc_names.proofs.design.modules_of.Given as goal

abbrev pub invariant-loop-number : goal.invariant-loop-number
invariant-loop-number l = AreModules l.modules l.table (take l.number l.modules)
