use Rattle.std.proofs.Common.{◌≡◌, take}
use Rattle.uc_values.specs.Types.{field_types}
use Rattle.uc_lower.specs.Fields.{all_leaves}
use Rattle.uc_lower.proofs.fields.+leaves.Given as goal

abbrev pub invariant-field_leaves-loop-field : goal.invariant-field_leaves-loop-field
invariant-field_leaves-loop-field l = l.found.items ≡ all_leaves (field_types (take l.field-index l.fields))
