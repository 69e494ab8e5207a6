use Rattle.std.proofs.Common.{[]}
use Rattle.std.specs.List.{flat_map}
use Rattle.uc_module_writes.specs.Bound.{bound_in}
use Rattle.uc_module_writes.proofs.Growing.{Grown}
use Rattle.uc_module_writes.proofs.bound.all_bound.Given as goal

abbrev pub invariant-loop-module : goal.invariant-loop-module
invariant-loop-module l = Grown (λ m. flat_map bound_in m.decls) l.modules [] l.module-index l.names
