use Rattle.uc_terms.proofs.Evaluating.{Evaluating}
use Rattle.uc_terms.proofs.evaluation.evaluated.Given as goal

abbrev pub invariant-loop-place : goal.invariant-loop-place
invariant-loop-place l = Evaluating l.model l.terms l.marks.items l.values.items l.place
