use Rattle.uc_checks.proofs.Parts.{field_more, index_ends, fields_end}
use Rattle.uc_checks.proofs.fields.fields_before.Goals as goal

pub returns-in-Element : goal.returns-in-Element
returns-in-Element c =
    index_ends c.args.parts.now c.loop-part.part-index c.loop-part.fields c.loop-part.invariant c.part-item.result c.loop-part-test.true c.part-item.is c.in-Element.field-0 c.in-Element.field-1 c.in-Element.is

pub loop-part-preserved : goal.loop-part-preserved
loop-part-preserved c =
    field_more c.args.parts.now c.loop-part.part-index c.loop-part.fields c.loop-part.invariant c.part-item.result c.loop-part-test.true c.part-item.is c.in-Field.field-0 c.in-Field.name c.push.new.self c.in-Field.is c.in_ok-push-in-Field.ensures.ok

pub returns : goal.returns
returns c = fields_end c.args.parts.now c.loop-part.part-index c.loop-part.fields c.loop-part.invariant c.loop-part-test.false
