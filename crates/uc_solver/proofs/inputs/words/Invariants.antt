use Rattle.uc_solver.specs.Inputs.{AreSet}
use Rattle.uc_solver.proofs.inputs.words.Given as goal

abbrev pub invariant-loop-place : goal.invariant-loop-place
invariant-loop-place l = AreSet l.terms l.atoms l.inputs l.place l.words.items
