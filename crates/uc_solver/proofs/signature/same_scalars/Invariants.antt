use Rattle.uc_ops.specs.Typing.{type_at}
use Rattle.uc_solver.proofs.Lists.{AreAlike}
use Rattle.uc_solver.proofs.signature.same_scalars.Given as goal

abbrev pub invariant-loop-place : goal.invariant-loop-place
invariant-loop-place l = AreAlike (type_at l.terms) l.left l.right l.place
