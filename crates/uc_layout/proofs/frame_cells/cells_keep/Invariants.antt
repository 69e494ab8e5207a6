use Rattle.std.proofs.Common.{List}
use Rattle.uc_meaning.specs.Steps.{CellPart}
use Rattle.uc_layout.specs.Sorted.{AreParts}
use Rattle.uc_layout.proofs.Keeping.{LeftSo}
use Rattle.uc_layout.proofs.frame_cells.cells_keep.Given as goal

abbrev pub invariant-loop-number : goal.invariant-loop-number
invariant-loop-number l = (written : List CellPart) → AreParts l.cells l.parts written → LeftSo written l.cells l.old l.new l.number
