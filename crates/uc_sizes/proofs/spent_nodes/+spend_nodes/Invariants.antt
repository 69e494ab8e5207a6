use Rattle.std.proofs.Common.{◌+◌, ◌*◌}
use Rattle.uc_lookup.specs.Parts.{system_in}
use Rattle.uc_sizes.specs.Counting.{cost}
use Rattle.uc_order_rules.specs.Sizes.{size}
use Rattle.uc_sizes.specs.Spending.{at_level, size_in}
use Rattle.uc_sizes.proofs.Spending.{SpentUpTo}
use Rattle.uc_sizes.proofs.spent_nodes.+spend_nodes.Given as goal

abbrev pub decreases-spend_nodes : goal.decreases-spend_nodes
decreases-spend_nodes l = 5 * l.levels

abbrev pub decreases-spend_counted : goal.decreases-spend_counted
decreases-spend_counted l = 5 * l.below + 4

abbrev pub decreases-spend_uses : goal.decreases-spend_uses
decreases-spend_uses l = 5 * l.below + 3

abbrev pub decreases-spend_use : goal.decreases-spend_use
decreases-spend_use l = 5 * l.below + 2

abbrev pub decreases-spend_name : goal.decreases-spend_name
decreases-spend_name l = 5 * l.below + 1

abbrev pub decreases-spend_applied : goal.decreases-spend_applied
decreases-spend_applied l = 5 * l.below + 1

abbrev pub invariant-spend_uses-loop-used : goal.invariant-spend_uses-loop-used
invariant-spend_uses-loop-used l = SpentUpTo (λ u. size 0 (cost (at_level (system_in l.system) l.below l.path) u)) l.uses (size_in l.fn.spent) l.used-index (size_in l.spent)
