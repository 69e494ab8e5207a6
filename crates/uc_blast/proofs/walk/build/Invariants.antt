use Rattle.uc_blast.specs.Walk.{AreStanding}
use Rattle.uc_blast.proofs.walk.build.Given as goal

abbrev pub invariant-loop-place : goal.invariant-loop-place
invariant-loop-place l = AreStanding l.terms l.marks l.place l.atoms.items l.gates l.words.items
