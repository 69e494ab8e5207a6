use Rattle.std.proofs.Common.{◌∷◌, []}
use Rattle.uc_module_writes.proofs.Growing.{Grown}
use Rattle.uc_module_writes.proofs.sets.PairSet.add_row.Given as goal

abbrev pub invariant-loop-part : goal.invariant-loop-part
invariant-loop-part l = Grown (λ q. (l.earlier, q) ∷ []) l.later l.fn.self l.part-index l.self
