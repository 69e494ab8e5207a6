use Rattle.std.proofs.Common.{length}
use Rattle.uc_flat_code.proofs.parts.+replaced_in.Given as goal

abbrev pub decreases-replaced_in : goal.decreases-replaced_in
decreases-replaced_in l = length l.parts.now
