use Rattle.uc_syntax.proofs.Added.{AddedUpTo}
use Rattle.uc_flat_making.specs.Cells.{cell_of_name}
use Rattle.uc_flat_making.proofs.cells.add_cells.Given as goal

abbrev pub invariant-loop-identifier : goal.invariant-loop-identifier
invariant-loop-identifier l = AddedUpTo (cell_of_name l.kind l.ty) l.names l.initial.cells l.identifier-index l.cells
