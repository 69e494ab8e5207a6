use Rattle.uc_obligations.specs.Reading.{AreNumbers}
use Rattle.uc_obligations.proofs.reading.all_terms.Given as goal

abbrev pub invariant-loop-number : goal.invariant-loop-number
invariant-loop-number l = AreNumbers l.number l.all
