use Rattle.std.proofs.Common.{[], map}
use Rattle.uc_syntax.proofs.Added.{AddedUpTo}
use Rattle.uc_layout.specs.Instances.{instance_meant, cell_meant, cells_at}
use Rattle.uc_layout.proofs.instances_cell.cells.Given as goal

abbrev pub invariant-loop-here : goal.invariant-loop-here
invariant-loop-here l = AddedUpTo (λ i. cells_at l.tables (instance_meant i)) l.here-items [] l.here-index (map cell_meant l.cells)
