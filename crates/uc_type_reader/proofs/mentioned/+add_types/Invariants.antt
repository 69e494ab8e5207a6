use Rattle.std.proofs.Common.{[], ◌∷◌}
use Rattle.uc_type_reader.proofs.Gained.{GainedUpTo}
use Rattle.uc_type_reader.proofs.mentioned.+add_types.Given as goal

abbrev pub invariant-add_parameters-loop-parameter : goal.invariant-add_parameters-loop-parameter
invariant-add_parameters-loop-parameter l = GainedUpTo (λ p. p.ty ∷ []) l.parameters l.initial.found l.parameter-index l.found
