use Rattle.uc_module_writes.specs.Bound.{bound_in}
use Rattle.uc_module_writes.proofs.Growing.{Grown}
use Rattle.uc_module_writes.proofs.bound.add_declared.Given as goal

abbrev pub invariant-loop-declaration : goal.invariant-loop-declaration
invariant-loop-declaration l = Grown bound_in l.declarations l.fn.names l.declaration-index l.names
