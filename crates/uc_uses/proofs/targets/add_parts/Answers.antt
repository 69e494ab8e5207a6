use Rattle.uc_syntax.proofs.Added.{added_begin, added_end, added_more}
use Rattle.uc_order_rules.specs.Mentions.{part_index}
use Rattle.uc_uses.proofs.targets.add_parts.Goals as goal

pub loop-part-init : goal.loop-part-init
loop-part-init c = added_begin _ _ _

pub loop-part-preserved : goal.loop-part-preserved
loop-part-preserved c =
    added_more part_index _ _ _ _ _ c.part-item.result c.loop-part.invariant c.loop-part-test.true c.part-item.is c.in_ok-add_part.ensures

pub returns : goal.returns
returns c = added_end _ _ _ _ _ c.loop-part.invariant c.loop-part-test.false
