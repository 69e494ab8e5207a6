use Rattle.std.proofs.Common.{map}
use Rattle.uc_syntax.proofs.Added.{AddedUpTo}
use Rattle.uc_meaning.specs.Cells.{cells_in}
use Rattle.uc_layout.specs.Instances.{instance_meant, cell_meant}
use Rattle.uc_layout.proofs.instances_cell.add_cells_at.Given as goal

abbrev pub invariant-loop-decl : goal.invariant-loop-decl
invariant-loop-decl l = AddedUpTo (cells_in l.tables (instance_meant l.here)) l.decl-items (map cell_meant l.initial.cells) l.decl-index (map cell_meant l.cells)
