use Rattle.std.proofs.Common.{◌≡◌, take, map}
use Rattle.uc_flat.proofs.flat.types_of_cells.Given as goal

abbrev pub invariant-loop-cell : goal.invariant-loop-cell
invariant-loop-cell l = l.types ≡ map (λ c. c.ty) (take l.cell-index l.cells)
