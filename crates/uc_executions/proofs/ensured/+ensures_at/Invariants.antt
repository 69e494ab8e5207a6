use Rattle.std.proofs.Common.{length}
use Rattle.uc_executions.proofs.ensured.+ensures_at.Given as goal

abbrev pub decreases-ensures_at : goal.decreases-ensures_at
decreases-ensures_at l = length l.clauses.now
