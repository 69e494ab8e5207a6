use Rattle.uc_flat_order.proofs.Kept.{AssignedUpTo}
use Rattle.uc_flat_order.proofs.wanted.assigned.Given as goal

abbrev pub invariant-loop-k : goal.invariant-loop-k
invariant-loop-k l = AssignedUpTo l.wanted l.place l.targets l.sources l.k l.all
