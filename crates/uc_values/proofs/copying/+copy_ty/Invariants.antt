use Rattle.std.proofs.Common.{◌≡◌, take}
use Rattle.uc_values.proofs.copying.+copy_ty.Given as goal

abbrev pub invariant-copy_fields-loop-field : goal.invariant-copy_fields-loop-field
invariant-copy_fields-loop-field l = l.copies.items ≡ take l.field-index l.fields
