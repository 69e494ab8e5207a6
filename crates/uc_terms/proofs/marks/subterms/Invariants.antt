use Rattle.uc_terms.proofs.Walk.{Walking}
use Rattle.uc_terms.proofs.marks.subterms.Given as goal

abbrev pub invariant-walk : goal.invariant-walk
invariant-walk l = Walking l.terms l.roots l.marks.items l.place

abbrev pub decreases-walk : goal.decreases-walk
decreases-walk l = l.place
