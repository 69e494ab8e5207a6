use Rattle.std.proofs.Common.{arith}
use Rattle.uc_lower.proofs.Slices.{after_record, after_more}
use Rattle.uc_lower.proofs.fields.+after.Goals as goal

pub after-returns-in-Rec : goal.after-returns-in-Rec
after-returns-in-Rec t c = after_record c.args.ty.now c.in-Rec.fields c.as_slice.result.now _ c.args.terms.now c.in-Rec.is c.as_slice.ensures c.after_fields.ensures

pub after_fields-loop-field-preserved : goal.after_fields-loop-field-preserved
after_fields-loop-field-preserved t c =
    after_more c.args.fields.now c.loop-field.field-index c.field-item.result c.loop-field.rest.now _ c.args.terms.now c.field-item.is (omega (arith, c.loop-field-test.true)) c.loop-field.invariant c.after-rest.ensures
