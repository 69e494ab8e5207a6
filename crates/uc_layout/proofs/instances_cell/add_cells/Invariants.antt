use Rattle.std.proofs.Common.{map}
use Rattle.uc_syntax.proofs.Added.{AddedUpTo}
use Rattle.uc_layout.specs.Instances.{instance_meant, cell_meant, named_cell}
use Rattle.uc_layout.proofs.instances_cell.add_cells.Given as goal

abbrev pub invariant-loop-identifier : goal.invariant-loop-identifier
invariant-loop-identifier l =
    AddedUpTo (λ i. named_cell l.tables (instance_meant l.here) l.kind l.ty i.name) l.names (map cell_meant l.initial.cells) l.identifier-index (map cell_meant l.cells)
