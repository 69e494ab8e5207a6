use Rattle.std.proofs.Common.{◌+◌, ◌*◌}
use Rattle.uc_sizes.specs.Counting.{branch_nodes, nodes_in, selection_in}
use Rattle.uc_sizes.proofs.ExpressionNodesSums.{BehindUpTo, SummedUpTo}
use Rattle.uc_sizes.proofs.expression_nodes.+add_nodes.Given as goal

abbrev pub invariant-add_nodes_of_all-loop-expression : goal.invariant-add_nodes_of_all-loop-expression
invariant-add_nodes_of_all-loop-expression l = SummedUpTo nodes_in l.expressions l.fn.counted l.expression-index l.counted

abbrev pub invariant-add_in_branches-loop-branch : goal.invariant-add_in_branches-loop-branch
invariant-add_in_branches-loop-branch l = SummedUpTo branch_nodes l.branches l.fn.counted l.branch-index l.counted

abbrev pub invariant-add_in_selections-loop-selection : goal.invariant-add_in_selections-loop-selection
invariant-add_in_selections-loop-selection l = SummedUpTo selection_in l.selections l.fn.counted l.selection-index l.counted

abbrev pub invariant-add_behind_first-loop-place : goal.invariant-add_behind_first-loop-place
invariant-add_behind_first-loop-place l = BehindUpTo nodes_in l.expressions l.fn.counted l.place l.counted

abbrev pub decreases-add_nodes : goal.decreases-add_nodes
decreases-add_nodes l = 3 * goal.size-add_nodes l

abbrev pub decreases-add_nodes_of_all : goal.decreases-add_nodes_of_all
decreases-add_nodes_of_all l = 3 * goal.size-add_nodes_of_all l + 1

abbrev pub decreases-add_in_branches : goal.decreases-add_in_branches
decreases-add_in_branches l = 3 * goal.size-add_in_branches l + 1

abbrev pub decreases-add_behind_first : goal.decreases-add_behind_first
decreases-add_behind_first l = 3 * goal.size-add_behind_first l + 1

abbrev pub decreases-add_in_selections : goal.decreases-add_in_selections
decreases-add_in_selections l = 3 * goal.size-add_in_selections l + 1

abbrev pub decreases-add_in_primary : goal.decreases-add_in_primary
decreases-add_in_primary l = 3 * goal.size-add_in_primary l + 2
