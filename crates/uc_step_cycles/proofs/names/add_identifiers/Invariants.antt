use Rattle.std.proofs.Common.{[], ◌∷◌}
use Rattle.uc_syntax.specs.declared.place.Identifier.{Identifier}
use Rattle.uc_syntax.proofs.Added.{AddedUpTo}
use Rattle.uc_step_cycles.proofs.names.add_identifiers.Given as goal

abbrev pub invariant-loop-identifier : goal.invariant-loop-identifier
invariant-loop-identifier l = AddedUpTo (λ (i : Identifier). i.name ∷ []) l.identifiers l.fn.names l.identifier-index l.names
