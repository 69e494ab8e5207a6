use Rattle.uc_uses.proofs.Dots.{dots_begin, dots_end, dots_more, dots_stop}
use Rattle.uc_uses.proofs.mentioned_names.dotted.Goals as goal

pub loop-selection-init : goal.loop-selection-init
loop-selection-init c = dots_begin _ _ c.new-names.ensures

pub loop-selection-preserved : goal.loop-selection-preserved
loop-selection-preserved c =
    dots_more _ _ _ _ c.selection-item.result _ _ _ c.loop-selection.invariant c.loop-selection-test.true c.selection-item.is c.field_of.ensures c.in-Some.is c.in_ok-push-in-Some.ensures.ok

pub returns : goal.returns
returns c = dots_end _ _ _ c.loop-selection.invariant c.loop-selection-test.false

pub returns-in-None : goal.returns-in-None
returns-in-None c = dots_stop _ _ _ c.selection-item.result _ _ c.loop-selection.invariant c.loop-selection-test.true c.selection-item.is c.field_of.ensures c.in-None.is
