use Rattle.std.proofs.Common.{length}
use Rattle.uc_simplify.proofs.gathering.+whole_form.Given as goal

abbrev pub decreases-whole_form : goal.decreases-whole_form
decreases-whole_form l = length l.parts.now
