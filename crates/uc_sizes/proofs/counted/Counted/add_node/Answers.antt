use Rattle.std.proofs.Common.{refl}
use Rattle.uc_sizes.proofs.ExpressionNodesSums.{node_added}
use Rattle.uc_sizes.proofs.counted.Counted.add_node.Goals as goal

pub returns-in-Some : goal.returns-in-Some
returns-in-Some c = node_added _ _ c.in-Some.ensures.1 refl
