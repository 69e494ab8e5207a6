use Rattle.std.proofs.Common.{◌∷◌, []}
use Rattle.uc_module_writes.proofs.Growing.{Grown}
use Rattle.uc_module_writes.proofs.sets.PartSet.add_copies.Given as goal

abbrev pub invariant-loop-part : goal.invariant-loop-part
invariant-loop-part l = Grown (λ p. p ∷ []) l.parts l.fn.self l.part-index l.self
