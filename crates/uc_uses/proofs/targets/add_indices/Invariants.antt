use Rattle.std.specs.List.{flat_map}
use Rattle.uc_order_rules.specs.Mentions.{part_index}
use Rattle.uc_syntax.proofs.Added.{AddedUpTo}
use Rattle.uc_uses.specs.Lent.{lent}
use Rattle.uc_uses.proofs.targets.add_indices.Given as goal

abbrev pub invariant-loop-target : goal.invariant-loop-target
invariant-loop-target l = AddedUpTo (λ t. flat_map part_index t.parts) l.targets (lent l.fn.found) l.target-index (lent l.found)
