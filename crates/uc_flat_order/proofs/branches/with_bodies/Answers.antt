use Rattle.uc_flat_order.proofs.Kept.{bodies_done}
use Rattle.uc_flat_order.proofs.branches.with_bodies.Goals as goal

pub returns : goal.returns
returns c = bodies_done c.args.arms.now c.args.bodies c.loop-body.body-iterator.rest.items c.loop-body.all _ c.loop-body.invariant c.loop-body.body-iterator.rest.ok.0 c.in-None.ensures.steps.0
