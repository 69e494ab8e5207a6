use Rattle.std.proofs.Common.{◌≡◌, ◌+◌, ◌*◌, map, take, drop, None}
use Rattle.std.specs.List.{flat_map}
use Rattle.uc_operators.specs.Overflows.{first_wide}
use Rattle.uc_meaning.specs.Levels.{type_at, value_at, met_at, chosen_at, chosen_met_at, select_all_at, selection_met_at}
use Rattle.uc_meaning.specs.Shapes.{size, sizes, total, branch_size, primary_size, selection_size, selections_size}
use Rattle.uc_readings.specs.Scopes.{scope_in}
use Rattle.uc_readings.specs.Readings.{reading_of}
use Rattle.uc_evaluator.proofs.Bodies.{bodies}
use Rattle.uc_evaluator.proofs.Levels.{levels, left_below}
use Rattle.uc_evaluator.proofs.evaluation.+said.Given as goal

abbrev pub decreases-said : goal.decreases-said
decreases-said l = levels l.below (bodies l.layout.now) + 8 * size l.e.now

abbrev pub decreases-all_said : goal.decreases-all_said
decreases-all_said l = levels l.below (bodies l.layout.now) + (8 * sizes l.expressions.now + 1)

abbrev pub decreases-chosen : goal.decreases-chosen
decreases-chosen l = levels l.below (bodies l.layout.now) + (8 * (total (map branch_size l.branches.now) + size l.otherwise.now) + 1)

abbrev pub decreases-selected : goal.decreases-selected
decreases-selected l = levels l.below (bodies l.layout.now) + (8 * (primary_size l.primary.now + selections_size l.selections.now) + 4)

abbrev pub decreases-head : goal.decreases-head
decreases-head l = levels l.below (bodies l.layout.now) + (8 * primary_size l.primary.now + 3)

abbrev pub decreases-after : goal.decreases-after
decreases-after l = levels l.below (bodies l.layout.now) + (8 * selections_size l.selections.now + 2)

abbrev pub decreases-select : goal.decreases-select
decreases-select l = levels l.below (bodies l.layout.now) + (8 * selection_size l.selection.now + 1)

abbrev pub decreases-named : goal.decreases-named
decreases-named l = levels l.below (bodies l.layout.now) + 1

abbrev pub decreases-called : goal.decreases-called
decreases-called l = levels l.below (bodies l.layout.now) + 1

abbrev pub decreases-elsewhere : goal.decreases-elsewhere
decreases-elsewhere l = left_below l.below (bodies l.layout.now) (size l.e.now)

abbrev pub invariant-all_said-loop-expression : goal.invariant-all_said-loop-expression
invariant-all_said-loop-expression l = record {
  types : l.operands.types ≡ map (type_at l.below l.layout (scope_in l.scope)) (take l.expression-index l.expressions);
  values : l.operands.values ≡ map (value_at l.below l.layout (scope_in l.scope)) (take l.expression-index l.expressions);
  wide : first_wide (flat_map (met_at l.below l.layout (scope_in l.scope)) (take l.expression-index l.expressions)) ≡ None;
}

abbrev pub invariant-chosen-loop-branch : goal.invariant-chosen-loop-branch
invariant-chosen-loop-branch l = record {
  value : chosen_at l.below l.layout (scope_in l.scope) (drop l.branch-index l.branches) l.otherwise ≡ chosen_at l.below l.layout (scope_in l.scope) l.branches l.otherwise;
  wide : first_wide (chosen_met_at l.below l.layout (scope_in l.scope) (drop l.branch-index l.branches) l.otherwise) ≡ first_wide (chosen_met_at l.below l.layout (scope_in l.scope) l.branches l.otherwise);
}

abbrev pub invariant-after-loop-selection : goal.invariant-after-loop-selection
invariant-after-loop-selection l = record {
  value : select_all_at l.below l.layout (scope_in l.scope) (reading_of l.here) (drop l.selection-index l.selections) ≡ select_all_at l.below l.layout (scope_in l.scope) (reading_of l.fn.start) l.selections;
  wide : first_wide (flat_map (selection_met_at l.below l.layout (scope_in l.scope)) (take l.selection-index l.selections)) ≡ None;
}
