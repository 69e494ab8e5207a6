use Rattle.std.proofs.Common.{◌≡◌, ◌++◌, map}
use Rattle.uc_flat_making.proofs.cells.types_in.Given as goal

abbrev pub invariant-loop-cell : goal.invariant-loop-cell
invariant-loop-cell l = l.types ++ map (λ c. c.ty) l.cell-iterator.rest.items ≡ map (λ c. c.ty) l.fn.cells
