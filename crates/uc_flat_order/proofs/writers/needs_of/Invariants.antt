use Rattle.uc_flat_order.proofs.Finding.{NeedsUpTo}
use Rattle.uc_flat_order.proofs.writers.needs_of.Given as goal

abbrev pub invariant-loop-part : goal.invariant-loop-part
invariant-loop-part l = NeedsUpTo l.uses l.writers l.parts l.part-index l.needs
