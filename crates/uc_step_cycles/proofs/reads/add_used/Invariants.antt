use Rattle.std.proofs.Common.{◌+◌, [], ◌∷◌}
use Rattle.uc_step_cycles.proofs.Growing.{UpTo}
use Rattle.uc_step_cycles.proofs.reads.add_used.Given as goal

abbrev pub invariant-loop-number : goal.invariant-loop-number
invariant-loop-number l = UpTo (λ k x. (l.from, l.start + x) ∷ []) l.used l.fn.graph l.number-index l.graph
