use Rattle.uc_blast.specs.Walk.{AreInputs}
use Rattle.uc_blast.proofs.inputs.make_inputs.Given as goal

abbrev pub invariant-loop-place : goal.invariant-loop-place
invariant-loop-place l = AreInputs l.terms l.fn.t l.marks l.place l.atoms.items l.words.items
