use Rattle.uc_lower.proofs.Walking.{Walked}
use Rattle.uc_lower.proofs.lowering.walk.Given as goal

abbrev pub invariant-loop-place : goal.invariant-loop-place
invariant-loop-place l = Walked l.fn.terms l.t l.marks.items l.initial.next l.terms l.lowered.items l.pairs.items l.conditions.items l.next l.place
