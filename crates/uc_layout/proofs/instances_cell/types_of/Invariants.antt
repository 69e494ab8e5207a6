use Rattle.std.proofs.Common.{◌≡◌, map}
use Rattle.uc_layout.proofs.instances_cell.types_of.Given as goal

abbrev pub invariant-loop-cell : goal.invariant-loop-cell
invariant-loop-cell l = l.types ≡ map (λ c. c.ty) l.yielded
