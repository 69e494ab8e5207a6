use Rattle.std.specs.Prelude.{nat_eq}
use Rattle.std.specs.HashMap.{get}
use Rattle.uc_solver.specs.Signatures.{AreFirst}
use Rattle.uc_solver.proofs.even.are_even.Given as goal

abbrev pub invariant-loop-place : goal.invariant-loop-place
invariant-loop-place l = AreFirst l.kind l.terms l.marks l.place (get nat_eq l.first)
