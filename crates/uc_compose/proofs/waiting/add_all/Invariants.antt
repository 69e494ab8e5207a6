use Rattle.std.proofs.Common.{take}
use Rattle.uc_compose.specs.Below.{Joins}
use Rattle.uc_compose.proofs.waiting.add_all.Given as goal

abbrev pub invariant-loop-term : goal.invariant-loop-term
invariant-loop-term l = Joins l.initial.waiting (take l.term-index l.terms) l.waiting
