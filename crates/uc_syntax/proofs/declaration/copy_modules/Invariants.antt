use Rattle.std.proofs.Common.{◌≡◌, take}
use Rattle.uc_syntax.proofs.declaration.copy_modules.Given as goal

abbrev pub invariant-loop-module : goal.invariant-loop-module
invariant-loop-module l = l.copies ≡ take l.module-index l.modules
