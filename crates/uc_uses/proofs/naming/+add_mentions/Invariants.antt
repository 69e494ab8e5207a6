use Rattle.uc_order_rules.specs.Mentions.{mentions}
use Rattle.uc_syntax.proofs.Added.{AddedUpTo}
use Rattle.uc_uses.specs.Meant.{in_branch, in_selection, meant}
use Rattle.uc_uses.proofs.naming.+add_mentions.Given as goal

abbrev pub invariant-add_mentions_of_all-loop-expression : goal.invariant-add_mentions_of_all-loop-expression
invariant-add_mentions_of_all-loop-expression l = AddedUpTo mentions l.expressions (meant l.fn.found) l.expression-index (meant l.found)

abbrev pub invariant-add_in_branches-loop-branch : goal.invariant-add_in_branches-loop-branch
invariant-add_in_branches-loop-branch l = AddedUpTo in_branch l.branches (meant l.fn.found) l.branch-index (meant l.found)

abbrev pub invariant-add_in_selections-loop-selection : goal.invariant-add_in_selections-loop-selection
invariant-add_in_selections-loop-selection l = AddedUpTo in_selection l.selections (meant l.fn.found) l.selection-index (meant l.found)
