use Rattle.std.proofs.Common.{◌∷◌, []}
use Rattle.uc_type_names.specs.Lent.{lent}
use Rattle.uc_syntax.proofs.Added.{AddedUpTo}
use Rattle.uc_type_names.proofs.written.add_parameters.Given as goal

abbrev pub invariant-loop-parameter : goal.invariant-loop-parameter
invariant-loop-parameter l = AddedUpTo (λ p. p.ty ∷ []) l.parameters (lent l.initial.types) l.parameter-index (lent l.types)
