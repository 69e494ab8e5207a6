use Rattle.uc_syntax.proofs.Added.{AddedUpTo}
use Rattle.uc_layout.specs.Listing.{instance_at, cells_of_name}
use Rattle.uc_layout.proofs.layout_cells.add_cells.Given as goal

abbrev pub invariant-loop-identifier : goal.invariant-loop-identifier
invariant-loop-identifier l = AddedUpTo (cells_of_name (instance_at l.here) l.kind) l.names l.initial.cells l.identifier-index l.cells
