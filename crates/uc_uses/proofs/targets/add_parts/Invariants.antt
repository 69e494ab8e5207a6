use Rattle.uc_order_rules.specs.Mentions.{part_index}
use Rattle.uc_syntax.proofs.Added.{AddedUpTo}
use Rattle.uc_uses.specs.Lent.{lent}
use Rattle.uc_uses.proofs.targets.add_parts.Given as goal

abbrev pub invariant-loop-part : goal.invariant-loop-part
invariant-loop-part l = AddedUpTo part_index l.parts (lent l.fn.found) l.part-index (lent l.found)
