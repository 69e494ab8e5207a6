use Rattle.uc_written_once.proofs.Single.{fields_end, fields_more, fields_stop}
use Rattle.uc_written_once.proofs.noting.add_fields.Goals as goal

pub loop-selected-preserved : goal.loop-selected-preserved
loop-selected-preserved c =
    fields_more c.args.parts.now c.args.part.now _ _ c.selected-item.result c.selected-item.result c.loop-selected.invariant c.loop-selected-test.true c.selected-item.is _ _ _ c.in-Field.is c.in_ok-push-in-Field.ensures.ok

pub returns-in-Element : goal.returns-in-Element
returns-in-Element c =
    fields_stop c.args.parts.now c.args.part.now _ _ c.selected-item.result c.selected-item.result c.loop-selected.invariant c.loop-selected-test.true c.selected-item.is _ _ c.in-Element.is

pub returns : goal.returns
returns c = fields_end c.args.parts.now c.args.part.now _ _ c.loop-selected.invariant c.loop-selected-test.false
