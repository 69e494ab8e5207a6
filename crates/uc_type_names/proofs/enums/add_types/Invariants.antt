use Rattle.uc_syntax.specs.WrittenTypes.{enums_in}
use Rattle.uc_syntax.proofs.Added.{AddedUpTo}
use Rattle.uc_type_names.specs.Lent.{meant}
use Rattle.uc_type_names.proofs.enums.add_types.Given as goal

abbrev pub invariant-loop-ty : goal.invariant-loop-ty
invariant-loop-ty l = AddedUpTo (λ t. enums_in t.now) l.types (meant l.initial.enums) l.ty-index (meant l.enums)
