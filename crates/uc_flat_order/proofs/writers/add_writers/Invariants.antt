use Rattle.uc_flat_order.proofs.Finding.{FoundUpTo}
use Rattle.uc_flat_order.proofs.writers.add_writers.Given as goal

abbrev pub invariant-loop-place : goal.invariant-loop-place
invariant-loop-place l = FoundUpTo l.uses l.listed l.part l.fn.needs l.place-index l.needs
