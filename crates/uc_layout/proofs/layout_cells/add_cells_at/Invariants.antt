use Rattle.uc_syntax.proofs.Added.{AddedUpTo}
use Rattle.uc_layout.specs.Listing.{instance_at, cells_of_declaration}
use Rattle.uc_layout.proofs.layout_cells.add_cells_at.Given as goal

abbrev pub invariant-loop-decl : goal.invariant-loop-decl
invariant-loop-decl l = AddedUpTo (cells_of_declaration (instance_at l.here)) l.decl-items l.initial.cells l.decl-index l.cells
