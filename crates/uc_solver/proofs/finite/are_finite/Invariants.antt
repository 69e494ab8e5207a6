use Rattle.uc_solver.specs.Nodes.{AreFinite}
use Rattle.uc_solver.proofs.finite.are_finite.Given as goal

abbrev pub invariant-loop-place : goal.invariant-loop-place
invariant-loop-place l = AreFinite l.terms l.marks l.place
