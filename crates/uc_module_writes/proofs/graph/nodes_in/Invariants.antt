use Rattle.std.proofs.Common.{[]}
use Rattle.uc_syntax.proofs.Added.{AddedUpTo}
use Rattle.uc_meaning.specs.Cells.{as_list}
use Rattle.uc_module_writes.specs.Places.{place_in}
use Rattle.uc_module_writes.proofs.graph.nodes_in.Given as goal

abbrev pub invariant-loop-declaration : goal.invariant-loop-declaration
invariant-loop-declaration l = AddedUpTo (λ d. as_list (place_in l.places d)) l.declarations [] l.declaration-index l.nodes
