use Rattle.uc_syntax.specs.Labels.{type_labels}
use Rattle.uc_syntax.proofs.Added.{AddedUpTo}
use Rattle.uc_syntax.proofs.written_enums.+add_types.Given as goal

abbrev pub invariant-add_parameters-loop-parameter : goal.invariant-add_parameters-loop-parameter
invariant-add_parameters-loop-parameter l = AddedUpTo (λ p. type_labels p.ty) l.parameters l.initial.enums l.parameter-index l.enums
