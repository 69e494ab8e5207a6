use Rattle.std.proofs.Common.{◌≡◌, drop}
use Rattle.uc_meaning.specs.Lookup.{first_some}
use Rattle.uc_runnable.specs.Outside.{outside_type}
use Rattle.uc_runnable.proofs.outside_types.+outside_type.Given as goal

abbrev pub invariant-outside_fields-loop-field : goal.invariant-outside_fields-loop-field
invariant-outside_fields-loop-field l = first_some (λ p. outside_type p.ty) (drop l.field-index l.fields) ≡ first_some (λ p. outside_type p.ty) l.fields
