use Rattle.std.proofs.Common.{arith}
use Rattle.uc_report.specs.Described.{described}
use Rattle.uc_syntax.proofs.Added.{added_end}
use Rattle.uc_report.proofs.Forms.{record_written, array_written}
use Rattle.uc_report.proofs.Steps.{field_more, field_end}
use Rattle.uc_report.proofs.values.+put_value.Goals as goal

pub put_fields-loop-place-preserved : goal.put_fields-loop-place-preserved
put_fields-loop-place-preserved t c =
    field_more (described c.args.d.now) c.args.fields.now c.args.parts.now c.loop-place.place c.index-fields-place.result c.index-parts-place.result
    c.loop-place.out.items c.put_field_name.new.out.items c.put_value.new.out.items _
    (omega (arith, c.loop-place-test.true, c.min-count.ensures)) (omega (arith, c.loop-place-test.true, c.min-count.ensures))
    c.index-fields-place.is c.index-parts-place.is c.loop-place.invariant c.in_ok-put_field_name.ensures c.in_ok-put_value.ensures

pub put_fields-returns : goal.put_fields-returns
put_fields-returns t c =
    field_end (described c.args.d.now) c.args.fields.now c.args.parts.now c.loop-place.place c.loop-place.out.items _
    (omega (arith, c.loop-place-test.false, c.min-count.ensures)) c.loop-place.invariant

pub put_value-returns-in_ok-put-in-Rec-2 : goal.put_value-returns-in_ok-put-in-Rec-2
put_value-returns-in_ok-put-in-Rec-2 t c =
    record_written (described c.args.d.now) c.args.ty.now c.args.value.now c.in-Rec.fields c.as_slice.result.now c.parts_of.result.now
    c.args.out.now.items c.put-in-Rec.new.out.items c.put_fields.new.out.items c.put-in-Rec-2.new.out.items
    c.in-Rec.is c.as_slice.ensures c.parts_of.ensures c.in_ok-put-in-Rec.ensures c.in_ok-put_fields-in-Rec.ensures c.in_ok-put-in-Rec-2.ensures

pub put_array-returns : goal.put_array-returns
put_array-returns t c =
    array_written (described c.args.d.now) c.args.ty.now c.args.value.now c.in-Arr.index c.in-Arr.element c.get-2.result.now c.rows_of-place-items.result.now c.default_of.result.now
    c.args.out.now.items c.put.new.out.items c.loop-place.out.items c.put-2.new.out.items c.put_value-2.new.out.items c.put-3.new.out.items
    c.in-Arr.is c.get-2.ensures c.rows_of-place-items.ensures c.default_of.ensures
    c.in_ok-put.ensures (added_end _ _ _ _ c.loop-place.place-index c.loop-place.invariant c.loop-place-test.false) c.in_ok-put-4.ensures c.in_ok-put_value-3.ensures c.in_ok-put-5.ensures
