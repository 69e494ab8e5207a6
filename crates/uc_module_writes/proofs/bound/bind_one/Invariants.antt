use Rattle.uc_module_writes.proofs.BoundNames.{ApartTo}
use Rattle.uc_module_writes.proofs.bound.bind_one.Given as goal

abbrev pub invariant-loop-binding : goal.invariant-loop-binding
invariant-loop-binding l = ApartTo l.bindings l.binding-index l.seen
