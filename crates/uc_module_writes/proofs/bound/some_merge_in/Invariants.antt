use Rattle.uc_module_writes.proofs.BoundNames.{InstancesTo}
use Rattle.uc_module_writes.proofs.bound.some_merge_in.Given as goal

abbrev pub invariant-loop-declaration : goal.invariant-loop-declaration
invariant-loop-declaration l = InstancesTo l.declarations l.declaration-index
