use Rattle.std.proofs.Common.{◌∷◌, []}
use Rattle.uc_syntax.proofs.Added.{AddedUpTo}
use Rattle.uc_module_writes.specs.Places.{places_in}
use Rattle.uc_module_writes.proofs.graph.instance_graph.Given as goal

abbrev pub invariant-loop-module : goal.invariant-loop-module
invariant-loop-module l = AddedUpTo (λ m. places_in l.places m.decls ∷ []) l.modules [] l.module-index l.graph
