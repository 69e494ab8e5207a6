use Rattle.std.proofs.Common.{◌≡◌, ◌+◌, ◌*◌, take}
use Rattle.uc_syntax.proofs.expression.+copy_expressions.Given as goal

-- At one depth the functions call each other from the highest rank down.
abbrev pub decreases-Expr::copy : goal.decreases-Expr::copy
decreases-Expr::copy l = 3 * goal.size-Expr::copy l

abbrev pub decreases-copy_boxed : goal.decreases-copy_boxed
decreases-copy_boxed l = 3 * goal.size-copy_boxed l + 1

abbrev pub decreases-copy_expressions : goal.decreases-copy_expressions
decreases-copy_expressions l = 3 * goal.size-copy_expressions l + 1

abbrev pub decreases-copy_chain : goal.decreases-copy_chain
decreases-copy_chain l = 3 * goal.size-copy_chain l + 2

abbrev pub decreases-copy_primary : goal.decreases-copy_primary
decreases-copy_primary l = 3 * goal.size-copy_primary l + 2

abbrev pub decreases-copy_branches : goal.decreases-copy_branches
decreases-copy_branches l = 3 * goal.size-copy_branches l + 1

abbrev pub decreases-copy_selections : goal.decreases-copy_selections
decreases-copy_selections l = 3 * goal.size-copy_selections l + 1

abbrev pub invariant-copy_expressions-loop-expression : goal.invariant-copy_expressions-loop-expression
invariant-copy_expressions-loop-expression l = l.copies ≡ take l.expression-index l.expressions

abbrev pub invariant-copy_selections-loop-selection : goal.invariant-copy_selections-loop-selection
invariant-copy_selections-loop-selection l = l.copies ≡ take l.selection-index l.selections

abbrev pub invariant-copy_branches-loop-branch : goal.invariant-copy_branches-loop-branch
invariant-copy_branches-loop-branch l = l.copies ≡ take l.branch-index l.branches
