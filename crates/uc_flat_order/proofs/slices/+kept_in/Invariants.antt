use Rattle.std.proofs.Common.{◌≡◌, ◌+◌, ◌*◌, [], take}
use Rattle.uc_syntax.proofs.Added.{AddedUpTo}
use Rattle.uc_flat_order.specs.Slices.{kept, bodies_in}
use Rattle.uc_flat_order.proofs.slices.+kept_in.Given as goal

abbrev pub decreases-kept_in : goal.decreases-kept_in
decreases-kept_in l = 4 * goal.size-kept_in l + 1

abbrev pub decreases-kept : goal.decreases-kept
decreases-kept l = 4 * goal.size-kept l

abbrev pub decreases-kept_bodies : goal.decreases-kept_bodies
decreases-kept_bodies l = 4 * goal.size-kept_bodies l + 2

abbrev pub decreases-kept_in_else : goal.decreases-kept_in_else
decreases-kept_in_else l = 4 * goal.size-kept_in_else l + 2

abbrev pub invariant-kept_in-loop-statement : goal.invariant-kept_in-loop-statement
invariant-kept_in-loop-statement l = AddedUpTo (kept l.wanted) l.code [] l.statement-index l.all

abbrev pub invariant-kept_bodies-loop-arm : goal.invariant-kept_bodies-loop-arm
invariant-kept_bodies-loop-arm l = l.all ≡ bodies_in (kept l.wanted) (take l.arm-index l.arms)
