use Rattle.std.proofs.Common.{take}
use Rattle.uc_solver.specs.Codes.{AreCodes}
use Rattle.uc_solver.proofs.mapped.codes.Given as goal

abbrev pub invariant-loop-place : goal.invariant-loop-place
invariant-loop-place l = AreCodes l.model l.terms (take l.place l.pairs) l.codes.items
