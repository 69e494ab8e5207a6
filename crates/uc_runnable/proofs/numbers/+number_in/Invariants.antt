use Rattle.std.proofs.Common.{◌≡◌, ◌+◌, ◌*◌, drop}
use Rattle.uc_meaning.specs.Lookup.{first_some}
use Rattle.uc_runnable.specs.Outside.{number_in}
use Rattle.uc_runnable.specs.Parts.{number_in_branch, selection_in}
use Rattle.uc_runnable.proofs.numbers.+number_in.Given as goal

abbrev pub invariant-number_in_all-loop-expression : goal.invariant-number_in_all-loop-expression
invariant-number_in_all-loop-expression l = first_some number_in (drop l.expression-index l.expressions) ≡ first_some number_in l.expressions

abbrev pub invariant-number_in_branches-loop-branch : goal.invariant-number_in_branches-loop-branch
invariant-number_in_branches-loop-branch l = first_some number_in_branch (drop l.branch-index l.branches) ≡ first_some number_in_branch l.branches

abbrev pub invariant-number_in_selections-loop-selection : goal.invariant-number_in_selections-loop-selection
invariant-number_in_selections-loop-selection l = first_some selection_in (drop l.selection-index l.selections) ≡ first_some selection_in l.selections

abbrev pub decreases-number_in : goal.decreases-number_in
decreases-number_in l = 5 * goal.size-number_in l

abbrev pub decreases-number_in_all : goal.decreases-number_in_all
decreases-number_in_all l = 5 * goal.size-number_in_all l + 1

abbrev pub decreases-number_in_branches : goal.decreases-number_in_branches
decreases-number_in_branches l = 5 * goal.size-number_in_branches l + 1

abbrev pub decreases-number_in_primary : goal.decreases-number_in_primary
decreases-number_in_primary l = 5 * goal.size-number_in_primary l + 4

abbrev pub decreases-number_in_arguments : goal.decreases-number_in_arguments
decreases-number_in_arguments l = 5 * goal.size-number_in_arguments l + 3

abbrev pub decreases-number_behind_first : goal.decreases-number_behind_first
decreases-number_behind_first l = 5 * goal.size-number_behind_first l + 2

abbrev pub decreases-number_in_selections : goal.decreases-number_in_selections
decreases-number_in_selections l = 5 * goal.size-number_in_selections l + 4

abbrev pub decreases-number_in_selection : goal.decreases-number_in_selection
decreases-number_in_selection l = 5 * goal.size-number_in_selection l + 3
