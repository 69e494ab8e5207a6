use Rattle.uc_lower.specs.Steps.{AreChosen}
use Rattle.uc_lower.proofs.build.chosen.Given as goal

abbrev pub invariant-loop-place : goal.invariant-loop-place
invariant-loop-place l = AreChosen l.fn.terms l.terms l.condition l.left l.right l.place l.chosen.items
