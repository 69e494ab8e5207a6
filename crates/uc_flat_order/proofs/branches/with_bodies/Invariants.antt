use Rattle.uc_flat_order.proofs.Kept.{BodiesUpTo}
use Rattle.uc_flat_order.proofs.branches.with_bodies.Given as goal

abbrev pub invariant-loop-body : goal.invariant-loop-body
invariant-loop-body l = BodiesUpTo l.arms l.fn.bodies l.body-iterator.rest.items l.all
