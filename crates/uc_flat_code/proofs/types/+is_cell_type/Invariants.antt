use Rattle.std.proofs.Common.{◌≡◌, drop}
use Rattle.std.specs.List.{list_all}
use Rattle.uc_flat_code.specs.CellTypes.{is_cell_type}
use Rattle.uc_flat_code.proofs.types.+is_cell_type.Given as goal

abbrev pub invariant-are_field_types-loop-field : goal.invariant-are_field_types-loop-field
invariant-are_field_types-loop-field l = list_all (λ f. is_cell_type f.ty) l.fields ≡ list_all (λ f. is_cell_type f.ty) (drop l.field-index l.fields)
