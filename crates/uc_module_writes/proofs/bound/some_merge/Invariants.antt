use Rattle.uc_module_writes.proofs.BoundNames.{ModulesTo}
use Rattle.uc_module_writes.proofs.bound.some_merge.Given as goal

abbrev pub invariant-loop-module : goal.invariant-loop-module
invariant-loop-module l = ModulesTo l.modules l.module-index
