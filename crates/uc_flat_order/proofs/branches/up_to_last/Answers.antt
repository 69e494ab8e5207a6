use Rattle.uc_flat_order.proofs.Kept.{none_last}
use Rattle.uc_flat_order.proofs.branches.up_to_last.Goals as goal

pub returns : goal.returns
returns c = none_last c.loop-last.all c.args.bodies c.pop.new.self c.in_default.ensures.0 c.in_default.ensures.1 c.loop-last.invariant
