use Rattle.std.proofs.Common.{◌≡◌, drop}
use Rattle.std.specs.List.{list_all}
use Rattle.uc_runnable.specs.Plain.{spares_arrays}
use Rattle.uc_runnable.proofs.fragment_types.+spares_arrays.Given as goal

abbrev pub invariant-fields_spare_arrays-loop-field : goal.invariant-fields_spare_arrays-loop-field
invariant-fields_spare_arrays-loop-field l = list_all (λ p. spares_arrays p.ty) (drop l.field-index l.fields) ≡ list_all (λ p. spares_arrays p.ty) l.fields
