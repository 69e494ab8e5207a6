use Rattle.uc_flat_order.proofs.Finding.{ListedUpTo}
use Rattle.uc_flat_order.proofs.writers.writers_of.Given as goal

abbrev pub invariant-loop-place : goal.invariant-loop-place
invariant-loop-place l = ListedUpTo l.uses l.place l.lists
