use Rattle.std.proofs.Common.{◌∷◌, []}
use Rattle.uc_module_writes.proofs.Growing.{Grown}
use Rattle.uc_module_writes.proofs.sets.PairSet.add_copies.Given as goal

abbrev pub invariant-loop-pair : goal.invariant-loop-pair
invariant-loop-pair l = Grown (λ p. p ∷ []) l.pairs l.fn.self l.pair-index l.self
