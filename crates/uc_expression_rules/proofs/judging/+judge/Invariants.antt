use Rattle.std.proofs.Common.{◌+◌, ◌*◌, take}
use Rattle.uc_read_names.specs.Reading.{standing_meant}
use Rattle.uc_expression_rules.specs.Judging.{JudgesAll, JudgesBranches}
use Rattle.uc_expression_rules.proofs.Turns.{SelectsFrom}
use Rattle.uc_expression_rules.proofs.judging.+judge.Given as goal

abbrev pub decreases-judge : goal.decreases-judge
decreases-judge l = 4 * goal.size-judge l

abbrev pub decreases-judge_all : goal.decreases-judge_all
decreases-judge_all l = 4 * goal.size-judge_all l + 1

abbrev pub decreases-judge_behind : goal.decreases-judge_behind
decreases-judge_behind l = 4 * goal.size-judge_behind l + 1

abbrev pub decreases-judge_branches : goal.decreases-judge_branches
decreases-judge_branches l = 4 * goal.size-judge_branches l + 1

abbrev pub decreases-judge_selection : goal.decreases-judge_selection
decreases-judge_selection l = 4 * goal.size-judge_selection l + 1

abbrev pub decreases-judge_chain_of : goal.decreases-judge_chain_of
decreases-judge_chain_of l = 4 * goal.size-judge_chain_of l + 2

abbrev pub decreases-judge_from_right : goal.decreases-judge_from_right
decreases-judge_from_right l = 4 * goal.size-judge_from_right l + 2

abbrev pub decreases-judge_product : goal.decreases-judge_product
decreases-judge_product l = 4 * goal.size-judge_product l + 2

abbrev pub decreases-judge_on_bits : goal.decreases-judge_on_bits
decreases-judge_on_bits l = 4 * goal.size-judge_on_bits l + 2

abbrev pub decreases-judge_selections : goal.decreases-judge_selections
decreases-judge_selections l = 4 * goal.size-judge_selections l + 2

abbrev pub decreases-judge_selected : goal.decreases-judge_selected
decreases-judge_selected l = 4 * goal.size-judge_selected l + 3

abbrev pub decreases-judge_primary : goal.decreases-judge_primary
decreases-judge_primary l = 4 * goal.size-judge_primary l + 3

abbrev pub invariant-judge_all-loop-expression : goal.invariant-judge_all-loop-expression
invariant-judge_all-loop-expression l = JudgesAll l.scope (take l.expression-index l.expressions) l.fn.first l.first l.types

abbrev pub invariant-judge_branches-loop-branch : goal.invariant-judge_branches-loop-branch
invariant-judge_branches-loop-branch l = JudgesBranches l.scope (take l.branch-index l.branches) l.fn.first l.first l.parts

abbrev pub invariant-judge_selections-loop-selection : goal.invariant-judge_selections-loop-selection
invariant-judge_selections-loop-selection l = SelectsFrom l.scope l.begin (standing_meant l.scope.system.modules l.fn.start) l.selections l.fn.first l.selection-index (standing_meant l.scope.system.modules l.before) l.first

abbrev pub invariant-judge_behind-loop-argument : goal.invariant-judge_behind-loop-argument
invariant-judge_behind-loop-argument l = JudgesAll l.scope (take l.argument-index l.rest) l.fn.first l.first l.types
