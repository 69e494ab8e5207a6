use Rattle.std.proofs.Common.{◌∷◌, []}
use Rattle.uc_module_writes.proofs.Growing.{Grown}
use Rattle.uc_module_writes.proofs.bound.add_bound.Given as goal

abbrev pub invariant-loop-binding : goal.invariant-loop-binding
invariant-loop-binding l = Grown (λ b. b.identifier.name ∷ []) l.bindings l.fn.names l.binding-index l.names
