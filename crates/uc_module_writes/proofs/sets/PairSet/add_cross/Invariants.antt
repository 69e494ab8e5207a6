use Rattle.std.proofs.Common.{map}
use Rattle.uc_module_writes.proofs.Growing.{Grown}
use Rattle.uc_module_writes.proofs.sets.PairSet.add_cross.Given as goal

abbrev pub invariant-loop-part : goal.invariant-loop-part
invariant-loop-part l = Grown (λ p. map (λ q. (p, q)) l.later) l.earlier l.fn.self l.part-index l.self
