use Rattle.std.proofs.Common.{◌≡◌, sym, ap, ◌∙◌, subst, arith, drop}
use Rattle.uc_values.specs.declared.value.Value.TheVariants.{Rec}
use Rattle.uc_solver.specs.Codes.{Reads}
use Rattle.uc_solver.proofs.Reading.{reads_Rec, fields_next, fields_all}
use Rattle.uc_solver.proofs.codes.+read.Goals as goal

pub read-returns-in_ok-parts-in-Rec : goal.read-returns-in_ok-parts-in-Rec
read-returns-in_ok-parts-in-Rec t c =
    let before = drop c.args.next.now c.args.codes.now in
    let after = drop c.read_fields.new.next c.args.codes.now in
    subst (λ vs. Reads c.args.ty.now before (Rec vs) after) (sym c.from_vec.ensures)
    (reads_Rec c.args.ty.now c.in-Rec.fields c.as_slice.result.now before after c.in_ok-parts-in-Rec.parts.items c.in-Rec.is c.as_slice.ensures c.in_ok-parts-in-Rec.ensures)

pub read_fields-loop-field-preserved : goal.read_fields-loop-field-preserved
read_fields-loop-field-preserved t c =
    fields_next c.args.fields.now c.loop-field.field-index c.field-item.result (drop c.args.next.now c.args.codes.now) (drop c.loop-field.next c.args.codes.now) (drop c.read.new.next c.args.codes.now)
    c.loop-field.parts.items c.push.new.self.items c.in_ok-read.field-0 c.field-item.is (omega (arith, c.loop-field-test.true)) c.in_ok-push.ensures.items c.loop-field.invariant c.in_ok-read.ensures

pub read_fields-returns : goal.read_fields-returns
read_fields-returns t c =
    fields_all c.args.fields.now c.loop-field.field-index (drop c.args.next.now c.args.codes.now) (drop c.loop-field.next c.args.codes.now) c.loop-field.parts.items (omega (arith, c.loop-field-test.false)) c.loop-field.invariant
