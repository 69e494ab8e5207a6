use Rattle.std.proofs.Common.{length}
use Rattle.uc_checks.proofs.fields.+from_index.Given as goal

abbrev pub decreases-from_index : goal.decreases-from_index
decreases-from_index l = length l.parts.now
