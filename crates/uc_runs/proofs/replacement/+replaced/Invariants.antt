use Rattle.std.proofs.Common.{length}
use Rattle.uc_runs.proofs.replacement.+replaced.Given as goal

abbrev pub decreases-replaced : goal.decreases-replaced
decreases-replaced l = length l.parts.now
