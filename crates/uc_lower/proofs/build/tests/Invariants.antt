use Rattle.uc_lower.specs.Steps.{AreTests}
use Rattle.uc_lower.proofs.build.tests.Given as goal

abbrev pub invariant-loop-place : goal.invariant-loop-place
invariant-loop-place l = AreTests l.fn.terms l.terms l.left l.right l.place l.tests.items
