use Rattle.uc_values.proofs.SameValuesSame.{same_holds}
use Rattle.uc_values.proofs.same_values.same_is_equal.Goals as goal

pub returns : goal.returns
returns c = same_holds
