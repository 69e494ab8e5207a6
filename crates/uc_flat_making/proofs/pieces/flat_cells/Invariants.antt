use Rattle.std.proofs.Common.{◌≡◌, ◌++◌, drop, map}
use Rattle.uc_flat_design.specs.Design.{flat_cell}
use Rattle.uc_flat_making.specs.Made.{full}
use Rattle.uc_flat_making.proofs.pieces.flat_cells.Given as goal

abbrev pub invariant-loop-cell : goal.invariant-loop-cell
invariant-loop-cell l = l.all ++ map flat_cell (map full (drop l.cell-index l.cells)) ≡ map flat_cell (map full l.cells)
