use Rattle.std.proofs.Common.{refl}
use Rattle.uc_sizes.proofs.ExpressionNodesSums.{use_added}
use Rattle.uc_sizes.proofs.counted.Counted.add_use.Goals as goal

pub returns : goal.returns
returns c = use_added _ _ _ refl c.in_ok-push.ensures.ok
