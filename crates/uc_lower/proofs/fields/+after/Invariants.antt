use Rattle.std.proofs.Common.{◌≡◌, length, take, drop}
use Rattle.uc_values.specs.Types.{field_types}
use Rattle.uc_lower.specs.Fields.{all_leaves}
use Rattle.uc_lower.proofs.fields.+after.Given as goal

abbrev pub invariant-after_fields-loop-field : goal.invariant-after_fields-loop-field
invariant-after_fields-loop-field l = l.rest ≡ drop (length (all_leaves (field_types (take l.field-index l.fields)))) l.terms
