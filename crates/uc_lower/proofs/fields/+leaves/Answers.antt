use Rattle.std.proofs.Common.{◌∙◌, ◌++◌, sym, ap, arith, take}
use Rattle.uc_values.specs.Types.{field_types}
use Rattle.uc_lower.specs.Fields.{all_leaves}
use Rattle.uc_lower.proofs.Slices.{leaves_record, leaves_more}
use Rattle.uc_lower.proofs.fields.+leaves.Goals as goal

pub leaves-returns-in_ok-found-in-Rec : goal.leaves-returns-in_ok-found-in-Rec
leaves-returns-in_ok-found-in-Rec t c = leaves_record c.args.ty.now c.in-Rec.fields c.as_slice.result.now _ c.in-Rec.is c.as_slice.ensures c.in_ok-found-in-Rec.ensures

pub field_leaves-loop-field-preserved : goal.field_leaves-loop-field-preserved
field_leaves-loop-field-preserved t c =
    c.in_ok-append.ensures.items ∙ ap (λ xs. xs ++ c.in_ok-inner.inner.items) c.loop-field.invariant ∙ ap (λ xs. all_leaves (field_types (take c.loop-field.field-index c.args.fields.now)) ++ xs) c.in_ok-inner.ensures
    ∙ sym (leaves_more c.args.fields.now c.loop-field.field-index c.field-item.result c.field-item.is (omega (arith, c.loop-field-test.true)))
