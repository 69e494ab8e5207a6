use Rattle.std.proofs.Common.{◌∙◌, sym, ap, drop, length, ◌<◌, arith}
use Rattle.uc_values.specs.declared.ty.Field.{Field}
use Rattle.uc_values.specs.declared.ty.Ty.{Ty}
use Rattle.uc_ops.specs.Typing.{fields_of}
use Rattle.uc_ops.proofs.Typed.{fields-Rec}
use Rattle.uc_lower.specs.Fields.{leaves}
use Rattle.uc_lower.proofs.Slices.{low_field-is}
use Rattle.uc_lower.proofs.fields.low_field.Goals as goal

pub returns-in-Rec : goal.returns-in-Rec
returns-in-Rec c =
    let gs = c.as_slice-fields.result.now in
    let rest = c.after_fields-rest.result.now in
    let within : c.args.place < length gs = omega (arith, c.requires, ap length (ap fields_of c.in-Rec.is ∙ fields-Rec c.in-Rec.fields), ap length c.as_slice-fields.ensures) in
    low_field-is c.args.ty.now c.in-Rec.fields gs c.args.place c.index-fields-place.result rest c.after.result.now c.args.terms.now c.before-in-Rec.result.now c.in-Rec.is c.as_slice-fields.ensures c.index-fields-place.is within
    c.after_fields-rest.ensures (c.after.ensures ∙ ap (λ (f : Field Ty). drop (length (leaves f.ty)) rest) (sym c.index-fields-place.is)) c.before-in-Rec.ensures
