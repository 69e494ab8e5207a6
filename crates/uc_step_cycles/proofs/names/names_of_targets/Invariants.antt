use Rattle.std.proofs.Common.{[], ◌∷◌}
use Rattle.uc_syntax.specs.declared.statement.Target.{Target}
use Rattle.uc_syntax.proofs.Added.{AddedUpTo}
use Rattle.uc_step_cycles.proofs.names.names_of_targets.Given as goal

abbrev pub invariant-loop-target : goal.invariant-loop-target
invariant-loop-target l = AddedUpTo (λ (t : Target). t.name ∷ []) l.targets l.initial.names l.target-index l.names
