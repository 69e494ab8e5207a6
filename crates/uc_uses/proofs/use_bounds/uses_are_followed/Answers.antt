use Rattle.uc_uses.proofs.UseBoundsFollowed.{uses_are_followed}
use Rattle.uc_uses.proofs.use_bounds.uses_are_followed.Goals as goal

pub returns : goal.returns
returns c = uses_are_followed
