use Rattle.uc_lower.specs.Walk.{IsFresh}
use Rattle.uc_lower.proofs.lowering.fresh.Given as goal

abbrev pub invariant-loop-place : goal.invariant-loop-place
invariant-loop-place l = IsFresh l.terms l.marks l.place l.above
