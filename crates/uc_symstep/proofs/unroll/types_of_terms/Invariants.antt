use Rattle.std.proofs.Common.{◌≡◌, map, take}
use Rattle.uc_ops.specs.Typing.{type_at}
use Rattle.uc_symstep.proofs.unroll.types_of_terms.Given as goal

abbrev pub invariant-loop-cell : goal.invariant-loop-cell
invariant-loop-cell l = l.types ≡ map (type_at l.terms) (take l.cell-index l.cells)
