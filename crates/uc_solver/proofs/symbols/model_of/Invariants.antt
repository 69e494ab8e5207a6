use Rattle.uc_solver.specs.Symbols.{AreGiven}
use Rattle.uc_solver.proofs.symbols.model_of.Given as goal

abbrev pub invariant-loop-place : goal.invariant-loop-place
invariant-loop-place l = AreGiven l.terms l.marks.items l.values l.place l.symbols
