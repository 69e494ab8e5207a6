use Rattle.uc_obligations.proofs.Read.{AreReadTo}
use Rattle.uc_obligations.proofs.reading.constants_of.Given as goal

abbrev pub invariant-loop-place : goal.invariant-loop-place
invariant-loop-place l = AreReadTo l.constants l.model.symbols l.place l.values
