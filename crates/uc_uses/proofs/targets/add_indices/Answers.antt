use Rattle.std.proofs.Common.{refl, ap, sym}
use Rattle.std.specs.List.{flat_map}
use Rattle.uc_syntax.specs.declared.statement.Target.{Target}
use Rattle.uc_syntax.proofs.Added.{added_begin, added_end, added_more, adds_one}
use Rattle.uc_order_rules.specs.Mentions.{part_index}
use Rattle.uc_uses.proofs.targets.add_indices.Goals as goal

pub loop-target-init : goal.loop-target-init
loop-target-init c = added_begin _ _ _

pub loop-target-preserved : goal.loop-target-preserved
loop-target-preserved c =
    added_more (λ (t : Target). flat_map part_index t.parts) _ _ _ _ _ c.target-item.result c.loop-target.invariant c.loop-target-test.true c.target-item.is (adds_one (λ (t : Target). flat_map part_index t.parts) c.target-item.result _ _ refl _ _ (ap (flat_map part_index) (sym c.as_slice.ensures)) c.in_ok-add_parts.ensures)

pub returns : goal.returns
returns c = added_end _ _ _ _ _ c.loop-target.invariant c.loop-target-test.false
