use Rattle.uc_syntax.specs.WrittenTypes.{enums_in}
use Rattle.uc_syntax.proofs.Added.{AddedUpTo}
use Rattle.uc_type_names.specs.Lent.{meant}
use Rattle.uc_type_names.proofs.enums.+add_types.Given as goal

abbrev pub invariant-add_fields-loop-field : goal.invariant-add_fields-loop-field
invariant-add_fields-loop-field l = AddedUpTo (λ p. enums_in p.ty) l.fields (meant l.initial.enums) l.field-index (meant l.enums)
