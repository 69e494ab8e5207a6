use Rattle.std.proofs.Common.{◌≡◌, drop}
use Rattle.std.specs.List.{list_all}
use Rattle.uc_values.specs.Types.{is_scalar}
use Rattle.uc_declared_types.proofs.shapes.are_scalar.Given as goal

abbrev pub invariant-loop-field : goal.invariant-loop-field
invariant-loop-field l = list_all (λ f. is_scalar f.ty) (drop l.field-index l.fields) ≡ list_all (λ f. is_scalar f.ty) l.fields
