use Rattle.std.proofs.Common.{◌≡◌, ◌-◌, ◌++◌, [], length, map, take, drop, true, false, ap, ◌∙◌, sym, subst, rules, arith}
use Rattle.std.specs.Prelude.{Err}
use Rattle.std.specs.List.{flat_map}
use Rattle.std.proofs.lemmas.List.{take_rest}
use Rattle.uc_values.specs.Arrays.{at, store}
use Rattle.uc_meaning.specs.Operators.{holds}
use Rattle.uc_meaning.specs.Expressions.{reads, element_type, name, reading_through, reached, applied, applied_reading, meaning_of}
use Rattle.uc_meaning.specs.Overflow.{met_through, name_met, applied_met}
use Rattle.uc_operators.specs.Overflows.{first_wide}
use Rattle.uc_meaning.specs.Levels.{reading_at, type_at, value_at, met_at, select_at, selection_met_at, selections_met_at, head_reading, head_met}
use Rattle.uc_meaning.specs.Shapes.{size, sizes, branch_size, primary_size, selection_size, selections_size}
use Rattle.uc_lookup.specs.Parts.{system_in}
use Rattle.uc_readings.specs.Scopes.{scope_in, reached_scope}
use Rattle.uc_readings.specs.declared.said.Said.{Said}
use Rattle.uc_readings.specs.Readings.{reading_of, on_bits_said}
use Rattle.uc_readings.specs.Sources.{StandsFor, Applies, with_locals}
use Rattle.uc_evaluator.specs.declared.operands.Operands.{Operands}
use Rattle.uc_evaluator.proofs.Told.{told_first, told_as, told_second, told_all, none_both, gives_as}
use Rattle.uc_evaluator.proofs.Bodies.{bodies}
use Rattle.uc_evaluator.proofs.Levels.{body_reading, body_met, no_reading, none_met, below_left, left_within}
use Rattle.uc_evaluator.proofs.Sizes.{part_size, rest_size}
use Rattle.uc_evaluator.proofs.Forms.{on_bits_are, other_selected, other_selected_met, name_selected, name_selected_met}
use Rattle.uc_evaluator.proofs.Turns.{all_more, all_told, all_end, mapped_more, mapped_end, chosen_more, chosen_taken, chosen_end, chosen_met_more, chosen_met_told, chosen_met_taken, chosen_met_end, after_more, after_end}
use Rattle.uc_evaluator.proofs.Shaped.{chain_gives, chain_told, chain_tells, compared_gives, compared_left, compared_right, compared_none, applied_gives, applied_told, applied_tells}
use Rattle.uc_evaluator.proofs.Named.{known_reading, known_none, bound_reading, bound_met, bound_size, result_reading, result_none, define_reading, define_met, define_size}
use Rattle.uc_evaluator.proofs.evaluation.+said.Goals as goal

-- several expressions
pub all_said-said-requires : goal.all_said-said-requires
all_said-said-requires t c =
    let part = part_size size c.args.expressions.now c.loop-expression.expression-index c.expression-item.result c.expression-item.result c.loop-expression-test.true c.expression-item.is in
    (omega (arith, c.decreases, part), tt)

pub all_said-returns-in_err-operand-clause-wide : goal.all_said-returns-in_err-operand-clause-wide
all_said-returns-in_err-operand-clause-wide t c =
    let told = all_told (met_at c.args.below c.args.layout.now (scope_in c.args.scope.now)) c.args.expressions.now c.loop-expression.expression-index Said Operands c.expression-item.result c.expression-item.result c.in_err-operand.field-0.0
    c.loop-expression-test.true c.expression-item.is c.loop-expression.invariant.wide c.in_err-operand.ensures.wide in
    search (rules, told)

pub all_said-loop-expression-preserved : goal.all_said-loop-expression-preserved
all_said-loop-expression-preserved t c = record {
  types = mapped_more (type_at c.args.below c.args.layout.now (scope_in c.args.scope.now)) c.args.expressions.now c.loop-expression.expression-index c.expression-item.result c.expression-item.result
      c.loop-expression.operands.types c.push.new.self.types c.in_ok-operand.operand.ty c.loop-expression-test.true c.expression-item.is (ap (λ r. r.type) c.in_ok-operand.ensures.value) c.loop-expression.invariant.types c.in_ok-push.ensures.types;
  values = mapped_more (value_at c.args.below c.args.layout.now (scope_in c.args.scope.now)) c.args.expressions.now c.loop-expression.expression-index c.expression-item.result c.expression-item.result
      c.loop-expression.operands.values c.push.new.self.values c.in_ok-operand.operand.value c.loop-expression-test.true c.expression-item.is (ap (λ r. r.value) c.in_ok-operand.ensures.value) c.loop-expression.invariant.values c.in_ok-push.ensures.values;
  wide = all_more (met_at c.args.below c.args.layout.now (scope_in c.args.scope.now)) c.args.expressions.now c.loop-expression.expression-index c.expression-item.result c.expression-item.result
      c.loop-expression-test.true c.expression-item.is c.loop-expression.invariant.wide c.in_ok-operand.ensures.wide;
}

pub all_said-returns-clause-types : goal.all_said-returns-clause-types
all_said-returns-clause-types t c =
    mapped_end (type_at c.args.below c.args.layout.now (scope_in c.args.scope.now)) c.args.expressions.now c.loop-expression.expression-index c.loop-expression.operands.types c.loop-expression-test.false c.loop-expression.invariant.types

pub all_said-returns-clause-values : goal.all_said-returns-clause-values
all_said-returns-clause-values t c =
    mapped_end (value_at c.args.below c.args.layout.now (scope_in c.args.scope.now)) c.args.expressions.now c.loop-expression.expression-index c.loop-expression.operands.values c.loop-expression-test.false c.loop-expression.invariant.values

pub all_said-returns-clause-wide : goal.all_said-returns-clause-wide
all_said-returns-clause-wide t c =
    all_end (met_at c.args.below c.args.layout.now (scope_in c.args.scope.now)) c.args.expressions.now c.loop-expression.expression-index c.loop-expression-test.false c.loop-expression.invariant.wide

-- a conditional
pub chosen-said-requires : goal.chosen-said-requires
chosen-said-requires t c =
    let part = part_size branch_size c.args.branches.now c.loop-branch.branch-index c.branch-item.result c.branch-item.result c.loop-branch-test.true c.branch-item.is in
    (omega (arith, c.decreases, part), tt)

pub chosen-said-requires-then-is_held : goal.chosen-said-requires-then-is_held
chosen-said-requires-then-is_held t c =
    let part = part_size branch_size c.args.branches.now c.loop-branch.branch-index c.branch-item.result c.branch-item.result c.loop-branch-test.true c.branch-item.is in
    (omega (arith, c.decreases, part), tt)

pub chosen-said-requires-2 : goal.chosen-said-requires-2
chosen-said-requires-2 t c = (omega (arith, c.decreases), tt)

pub chosen-returns-in_err-condition-clause-wide : goal.chosen-returns-in_err-condition-clause-wide
chosen-returns-in_err-condition-clause-wide t c =
    let told = chosen_met_told c.args.below c.args.layout.now (scope_in c.args.scope.now) c.args.branches.now c.args.otherwise.now c.loop-branch.branch-index Said Said c.branch-item.result c.branch-item.result _ c.in_err-condition.field-0.0
    c.loop-branch-test.true c.branch-item.is c.loop-branch.invariant.wide c.in_err-condition.ensures.wide in
    search (rules, told)

pub chosen-returns-then-is_held-clause-value : goal.chosen-returns-then-is_held-clause-value
chosen-returns-then-is_held-clause-value t c =
    let here : c.is_held.result ≡ true = search rules in
    gives_as reading_of _ _ c.said-then-is_held.result
    (chosen_taken c.args.below c.args.layout.now (scope_in c.args.scope.now) c.args.branches.now c.args.otherwise.now c.loop-branch.branch-index c.branch-item.result c.branch-item.result _ c.loop-branch-test.true c.branch-item.is
    (sym here ∙ c.is_held.ensures ∙ ap (λ r. holds r.value) c.in_ok-condition.ensures.value) c.loop-branch.invariant.value)
    c.said-then-is_held.ensures.value

pub chosen-returns-then-is_held-clause-wide : goal.chosen-returns-then-is_held-clause-wide
chosen-returns-then-is_held-clause-wide t c =
    let here : c.is_held.result ≡ true = search rules in
    chosen_met_taken c.args.below c.args.layout.now (scope_in c.args.scope.now) c.args.branches.now c.args.otherwise.now c.loop-branch.branch-index c.branch-item.result c.branch-item.result _ c.said-then-is_held.result c.loop-branch-test.true c.branch-item.is
    (sym here ∙ c.is_held.ensures ∙ ap (λ r. holds r.value) c.in_ok-condition.ensures.value) c.in_ok-condition.ensures.wide c.loop-branch.invariant.wide c.said-then-is_held.ensures.wide

pub chosen-loop-branch-preserved : goal.chosen-loop-branch-preserved
chosen-loop-branch-preserved t c =
    let here : c.is_held.result ≡ false = search rules in
    let held = sym here ∙ c.is_held.ensures ∙ ap (λ r. holds r.value) c.in_ok-condition.ensures.value in
    record {
      value = chosen_more c.args.below c.args.layout.now (scope_in c.args.scope.now) c.args.branches.now c.args.otherwise.now c.loop-branch.branch-index c.branch-item.result c.branch-item.result _ c.loop-branch-test.true c.branch-item.is held
          c.loop-branch.invariant.value;
      wide = chosen_met_more c.args.below c.args.layout.now (scope_in c.args.scope.now) c.args.branches.now c.args.otherwise.now c.loop-branch.branch-index c.branch-item.result c.branch-item.result _ c.loop-branch-test.true c.branch-item.is held
          c.in_ok-condition.ensures.wide c.loop-branch.invariant.wide;
    }

pub chosen-returns-clause-value : goal.chosen-returns-clause-value
chosen-returns-clause-value t c =
    gives_as reading_of _ _ c.said-2.result
    (chosen_end c.args.below c.args.layout.now (scope_in c.args.scope.now) c.args.branches.now c.args.otherwise.now c.loop-branch.branch-index _ c.loop-branch-test.false c.loop-branch.invariant.value)
    c.said-2.ensures.value

pub chosen-returns-clause-wide : goal.chosen-returns-clause-wide
chosen-returns-clause-wide t c =
    chosen_met_end c.args.below c.args.layout.now (scope_in c.args.scope.now) c.args.branches.now c.args.otherwise.now c.loop-branch.branch-index _ c.said-2.result c.loop-branch-test.false c.loop-branch.invariant.wide c.said-2.ensures.wide

-- selections
pub after-select-requires : goal.after-select-requires
after-select-requires t c =
    let part = part_size selection_size c.args.selections.now c.loop-selection.selection-index c.selection-item.result c.selection-item.result c.loop-selection-test.true c.selection-item.is in
    (omega (arith, c.decreases, part), tt)

pub after-returns-in_err-here-clause-wide : goal.after-returns-in_err-here-clause-wide
after-returns-in_err-here-clause-wide t c =
    let told = all_told (selection_met_at c.args.below c.args.layout.now (scope_in c.args.scope.now)) c.args.selections.now c.loop-selection.selection-index Said Said c.selection-item.result c.selection-item.result c.in_err-here.field-0.0
    c.loop-selection-test.true c.selection-item.is c.loop-selection.invariant.wide c.in_err-here.ensures.wide in
    search (rules, told)

pub after-loop-selection-preserved : goal.after-loop-selection-preserved
after-loop-selection-preserved t c = record {
  value = after_more c.args.below c.args.layout.now (scope_in c.args.scope.now) c.args.selections.now c.loop-selection.selection-index c.selection-item.result c.selection-item.result
      (reading_of c.loop-selection.here) (reading_of c.in_ok-here.here) _ c.loop-selection-test.true c.selection-item.is c.in_ok-here.ensures.value c.loop-selection.invariant.value;
  wide = all_more (selection_met_at c.args.below c.args.layout.now (scope_in c.args.scope.now)) c.args.selections.now c.loop-selection.selection-index c.selection-item.result c.selection-item.result
      c.loop-selection-test.true c.selection-item.is c.loop-selection.invariant.wide c.in_ok-here.ensures.wide;
}

pub after-returns-clause-value : goal.after-returns-clause-value
after-returns-clause-value t c =
    after_end c.args.below c.args.layout.now (scope_in c.args.scope.now) c.args.selections.now c.loop-selection.selection-index (reading_of c.loop-selection.here) _ c.loop-selection-test.false c.loop-selection.invariant.value

pub after-returns-clause-wide : goal.after-returns-clause-wide
after-returns-clause-wide t c =
    all_end (selection_met_at c.args.below c.args.layout.now (scope_in c.args.scope.now)) c.args.selections.now c.loop-selection.selection-index c.loop-selection-test.false c.loop-selection.invariant.wide

pub select-said-requires : goal.select-said-requires
select-said-requires t c = (omega (arith, c.decreases, ap selection_size c.in-Element.is), tt)

pub select-said-requires-in-Update : goal.select-said-requires-in-Update
select-said-requires-in-Update t c = (omega (arith, c.decreases, ap selection_size c.in-Update.is), tt)

pub select-said-requires-in-Update-2 : goal.select-said-requires-in-Update-2
select-said-requires-in-Update-2 t c = (omega (arith, c.decreases, ap selection_size c.in-Update.is), tt)

pub select-returns-in_err-index-in-Element-clause-wide : goal.select-returns-in_err-index-in-Element-clause-wide
select-returns-in_err-index-in-Element-clause-wide t c =
    let told = told_as Said Said (met_at c.args.below c.args.layout.now (scope_in c.args.scope.now) c.in-Element.index) (selection_met_at c.args.below c.args.layout.now (scope_in c.args.scope.now) c.args.selection.now) c.in_err-index-in-Element.field-0.0
    (sym (ap (selection_met_at c.args.below c.args.layout.now (scope_in c.args.scope.now)) c.in-Element.is)) c.in_err-index-in-Element.ensures.wide in
    search (rules, told)

pub select-returns-in_err-index-in-Update-clause-wide : goal.select-returns-in_err-index-in-Update-clause-wide
select-returns-in_err-index-in-Update-clause-wide t c =
    let first = met_at c.args.below c.args.layout.now (scope_in c.args.scope.now) c.in-Update.index in
    let second = met_at c.args.below c.args.layout.now (scope_in c.args.scope.now) c.in-Update.new in
    let told = told_as Said Said (first ++ second) (selection_met_at c.args.below c.args.layout.now (scope_in c.args.scope.now) c.args.selection.now) c.in_err-index-in-Update.field-0.0
    (sym (ap (selection_met_at c.args.below c.args.layout.now (scope_in c.args.scope.now)) c.in-Update.is)) (told_first Said Said first second c.in_err-index-in-Update.field-0.0 c.in_err-index-in-Update.ensures.wide) in
    search (rules, told)

pub select-returns-in_err-new-in-Update-clause-wide : goal.select-returns-in_err-new-in-Update-clause-wide
select-returns-in_err-new-in-Update-clause-wide t c =
    let first = met_at c.args.below c.args.layout.now (scope_in c.args.scope.now) c.in-Update.index in
    let second = met_at c.args.below c.args.layout.now (scope_in c.args.scope.now) c.in-Update.new in
    let told = told_as Said Said (first ++ second) (selection_met_at c.args.below c.args.layout.now (scope_in c.args.scope.now) c.args.selection.now) c.in_err-new-in-Update.field-0.0
    (sym (ap (selection_met_at c.args.below c.args.layout.now (scope_in c.args.scope.now)) c.in-Update.is))
    (told_second {A = Said} first second (Err c.in_err-new-in-Update.field-0.0) c.in_ok-index-in-Update.ensures.wide c.in_err-new-in-Update.ensures.wide) in
    search (rules, told)

pub select-returns-in_ok-element-in-Element-clause-value : goal.select-returns-in_ok-element-in-Element-clause-value
select-returns-in_ok-element-in-Element-clause-value t c =
    c.in_ok-element-in-Element.ensures
    ∙ ap (λ r. reads (element_type c.args.before.ty) (at c.args.before.value r.value)) c.in_ok-index-in-Element.ensures.value
    ∙ ap (select_at c.args.below c.args.layout.now (scope_in c.args.scope.now) (reading_of c.args.before)) (sym c.in-Element.is)

pub select-returns-in_ok-element-in-Element-clause-wide : goal.select-returns-in_ok-element-in-Element-clause-wide
select-returns-in_ok-element-in-Element-clause-wide t c =
    ap (λ x. first_wide (selection_met_at c.args.below c.args.layout.now (scope_in c.args.scope.now) x)) c.in-Element.is ∙ c.in_ok-index-in-Element.ensures.wide

pub select-returns-in_ok-updated-in-Update-clause-value : goal.select-returns-in_ok-updated-in-Update-clause-value
select-returns-in_ok-updated-in-Update-clause-value t c =
    c.in_ok-updated-in-Update.ensures
    ∙ (λ i. reads c.args.before.ty (store c.args.before.value (c.in_ok-index-in-Update.ensures.value i).value (c.in_ok-new-in-Update.ensures.value i).value))
    ∙ ap (select_at c.args.below c.args.layout.now (scope_in c.args.scope.now) (reading_of c.args.before)) (sym c.in-Update.is)

pub select-returns-in_ok-updated-in-Update-clause-wide : goal.select-returns-in_ok-updated-in-Update-clause-wide
select-returns-in_ok-updated-in-Update-clause-wide t c =
    ap (λ x. first_wide (selection_met_at c.args.below c.args.layout.now (scope_in c.args.scope.now) x)) c.in-Update.is
    ∙ none_both (met_at c.args.below c.args.layout.now (scope_in c.args.scope.now) c.in-Update.index) (met_at c.args.below c.args.layout.now (scope_in c.args.scope.now) c.in-Update.new)
    c.in_ok-index-in-Update.ensures.wide c.in_ok-new-in-Update.ensures.wide

-- expressions elsewhere
pub elsewhere-said-requires : goal.elsewhere-said-requires
elsewhere-said-requires t c =
    let left = below_left c.args.below (bodies c.args.layout.now) (size c.args.e.now) c.if-below-eq0.false in
    (omega (arith, c.decreases, left), tt)

pub elsewhere-returns-then-below-eq0-clause-value : goal.elsewhere-returns-then-below-eq0-clause-value
elsewhere-returns-then-below-eq0-clause-value t c =
    c.retyped.ensures ∙ ap (λ r. reads c.args.ty r.value) (c.truth.ensures ∙ sym (no_reading c.args.below c.args.layout.now (scope_in c.args.scope.now) c.args.e.now c.if-below-eq0.true))

pub elsewhere-returns-then-below-eq0-clause-wide : goal.elsewhere-returns-then-below-eq0-clause-wide
elsewhere-returns-then-below-eq0-clause-wide t c = ap first_wide (none_met c.args.below c.args.layout.now (scope_in c.args.scope.now) c.args.e.now c.if-below-eq0.true)

pub elsewhere-returns-in_err-there-clause-wide : goal.elsewhere-returns-in_err-there-clause-wide
elsewhere-returns-in_err-there-clause-wide t c =
    let told = told_as Said Said (met_at (c.args.below - 1) c.args.layout.now (scope_in c.args.scope.now) c.args.e.now) (met_through c.args.below c.args.layout.now (scope_in c.args.scope.now) c.args.e.now) c.in_err-there.field-0.0
    (body_met c.args.below c.args.layout.now (scope_in c.args.scope.now) c.args.e.now c.if-below-eq0.false) c.in_err-there.ensures.wide in
    search (rules, told)

pub elsewhere-returns-clause-value : goal.elsewhere-returns-clause-value
elsewhere-returns-clause-value t c =
    c.retyped-2.ensures ∙ ap (λ r. reads c.args.ty r.value) (c.in_ok-there.ensures.value ∙ body_reading c.args.below c.args.layout.now (scope_in c.args.scope.now) c.args.e.now c.if-below-eq0.false)

pub elsewhere-returns-clause-wide : goal.elsewhere-returns-clause-wide
elsewhere-returns-clause-wide t c =
    ap first_wide (sym (body_met c.args.below c.args.layout.now (scope_in c.args.scope.now) c.args.e.now c.if-below-eq0.false)) ∙ c.in_ok-there.ensures.wide

-- applications
pub called-elsewhere-requires : goal.called-elsewhere-requires
called-elsewhere-requires t c =
    let is = subst (λ a. Applies (scope_in c.args.scope.now) c.args.arguments.now a (applied c.args.layout.now (scope_in c.args.scope.now) c.args.name c.args.arguments.now)) c.in-Define.is c.in_ok-used.ensures in
    let small = define_size c.args.below c.args.layout.now (scope_in c.args.scope.now) c.args.name c.args.arguments.now c.in-Define.ty (with_locals (scope_in c.args.scope.now) c.in-Define.locals) c.in-Define.body.now is in
    let left = left_within c.args.below (bodies c.args.layout.now) (size c.in-Define.body.now) small in
    (omega (arith, c.decreases, left), tt)

pub called-returns-in-Known-clause-value : goal.called-returns-in-Known-clause-value
called-returns-in-Known-clause-value t c =
    result_reading c.args.below c.args.layout.now (scope_in c.args.scope.now) c.args.name c.args.arguments.now (reading_of c.in-Known.said)
    (subst (λ a. Applies (scope_in c.args.scope.now) c.args.arguments.now a (applied c.args.layout.now (scope_in c.args.scope.now) c.args.name c.args.arguments.now)) c.in-Known.is c.in_ok-used.ensures)

pub called-returns-in-Known-clause-wide : goal.called-returns-in-Known-clause-wide
called-returns-in-Known-clause-wide t c =
    result_none c.args.below c.args.layout.now (scope_in c.args.scope.now) c.args.name c.args.arguments.now (reading_of c.in-Known.said)
    (subst (λ a. Applies (scope_in c.args.scope.now) c.args.arguments.now a (applied c.args.layout.now (scope_in c.args.scope.now) c.args.name c.args.arguments.now)) c.in-Known.is c.in_ok-used.ensures)

pub called-returns-in-Define-clause-value : goal.called-returns-in-Define-clause-value
called-returns-in-Define-clause-value t c =
    let is = subst (λ a. Applies (scope_in c.args.scope.now) c.args.arguments.now a (applied c.args.layout.now (scope_in c.args.scope.now) c.args.name c.args.arguments.now)) c.in-Define.is c.in_ok-used.ensures in
    gives_as reading_of _ _ c.elsewhere.result
    (ap (λ z. reads c.in-Define.ty (reading_through c.args.below c.args.layout.now z c.in-Define.body.now).value) (c.with_locals-inside.ensures ∙ ap (with_locals (scope_in c.args.scope.now)) c.as_slice.ensures)
    ∙ define_reading c.args.below c.args.layout.now (scope_in c.args.scope.now) c.args.name c.args.arguments.now c.in-Define.ty (with_locals (scope_in c.args.scope.now) c.in-Define.locals) c.in-Define.body.now is)
    c.elsewhere.ensures.value

pub called-returns-in-Define-clause-wide : goal.called-returns-in-Define-clause-wide
called-returns-in-Define-clause-wide t c =
    let is = subst (λ a. Applies (scope_in c.args.scope.now) c.args.arguments.now a (applied c.args.layout.now (scope_in c.args.scope.now) c.args.name c.args.arguments.now)) c.in-Define.is c.in_ok-used.ensures in
    told_all _ _ c.elsewhere.result
    (ap (λ z. met_through c.args.below c.args.layout.now z c.in-Define.body.now) (c.with_locals-inside.ensures ∙ ap (with_locals (scope_in c.args.scope.now)) c.as_slice.ensures)
    ∙ define_met c.args.below c.args.layout.now (scope_in c.args.scope.now) c.args.name c.args.arguments.now c.in-Define.ty (with_locals (scope_in c.args.scope.now) c.in-Define.locals) c.in-Define.body.now is)
    c.elsewhere.ensures.wide

-- names
pub named-elsewhere-requires : goal.named-elsewhere-requires
named-elsewhere-requires t c =
    let is = subst (λ m. StandsFor m (meaning_of c.args.layout.now (scope_in c.args.scope.now) c.args.name c.args.is_primed)) c.in-Elsewhere.is c.in_ok-meant.ensures in
    let small = bound_size c.args.below c.args.layout.now (scope_in c.args.scope.now) c.args.name c.args.is_primed c.in-Elsewhere.ty (scope_in c.in-Elsewhere.there) c.in-Elsewhere.expression.now is in
    let left = left_within c.args.below (bodies c.args.layout.now) (size c.in-Elsewhere.expression.now) small in
    (omega (arith, c.decreases, left), tt)

pub named-returns-in-Known-clause-value : goal.named-returns-in-Known-clause-value
named-returns-in-Known-clause-value t c =
    known_reading c.args.below c.args.layout.now (scope_in c.args.scope.now) c.args.name c.args.is_primed (reading_of c.in-Known.said)
    (subst (λ m. StandsFor m (meaning_of c.args.layout.now (scope_in c.args.scope.now) c.args.name c.args.is_primed)) c.in-Known.is c.in_ok-meant.ensures)

pub named-returns-in-Known-clause-wide : goal.named-returns-in-Known-clause-wide
named-returns-in-Known-clause-wide t c =
    known_none c.args.below c.args.layout.now (scope_in c.args.scope.now) c.args.name c.args.is_primed (reading_of c.in-Known.said)
    (subst (λ m. StandsFor m (meaning_of c.args.layout.now (scope_in c.args.scope.now) c.args.name c.args.is_primed)) c.in-Known.is c.in_ok-meant.ensures)

pub named-returns-in-Elsewhere-clause-value : goal.named-returns-in-Elsewhere-clause-value
named-returns-in-Elsewhere-clause-value t c =
    let is = subst (λ m. StandsFor m (meaning_of c.args.layout.now (scope_in c.args.scope.now) c.args.name c.args.is_primed)) c.in-Elsewhere.is c.in_ok-meant.ensures in
    gives_as reading_of _ _ c.elsewhere.result
    (bound_reading c.args.below c.args.layout.now (scope_in c.args.scope.now) c.args.name c.args.is_primed c.in-Elsewhere.ty (scope_in c.in-Elsewhere.there) c.in-Elsewhere.expression.now is)
    c.elsewhere.ensures.value

pub named-returns-in-Elsewhere-clause-wide : goal.named-returns-in-Elsewhere-clause-wide
named-returns-in-Elsewhere-clause-wide t c =
    let is = subst (λ m. StandsFor m (meaning_of c.args.layout.now (scope_in c.args.scope.now) c.args.name c.args.is_primed)) c.in-Elsewhere.is c.in_ok-meant.ensures in
    told_all _ _ c.elsewhere.result
    (bound_met c.args.below c.args.layout.now (scope_in c.args.scope.now) c.args.name c.args.is_primed c.in-Elsewhere.ty (scope_in c.in-Elsewhere.there) c.in-Elsewhere.expression.now is)
    c.elsewhere.ensures.wide

-- expressions by their shape
pub said-chosen-requires : goal.said-chosen-requires
said-chosen-requires t c = (omega (arith, c.decreases, c.in-Chosen.ensures.smaller), tt)

pub said-all_said-requires : goal.said-all_said-requires
said-all_said-requires t c = (omega (arith, c.decreases, c.in-Chained.ensures.smaller), tt)

pub said-said-requires : goal.said-said-requires
said-said-requires t c = (omega (arith, c.decreases, c.in-Compared.ensures.smaller), tt)

pub said-said-requires-in-Compared : goal.said-said-requires-in-Compared
said-said-requires-in-Compared t c = (omega (arith, c.decreases, c.in-Compared.ensures.smaller), tt)

pub said-said-requires-in-Applied : goal.said-said-requires-in-Applied
said-said-requires-in-Applied t c = (omega (arith, c.decreases, c.in-Applied.ensures.smaller), tt)

pub said-selected-requires : goal.said-selected-requires
said-selected-requires t c = (omega (arith, c.decreases, c.in-Selected.ensures.smaller), tt)

pub said-returns-in-Chosen-clause-value : goal.said-returns-in-Chosen-clause-value
said-returns-in-Chosen-clause-value t c =
    gives_as reading_of _ _ c.chosen.result (sym (c.in-Chosen.ensures.reading c.args.below c.args.layout.now (scope_in c.args.scope.now))) c.chosen.ensures.value

pub said-returns-in-Chosen-clause-wide : goal.said-returns-in-Chosen-clause-wide
said-returns-in-Chosen-clause-wide t c =
    told_all _ _ c.chosen.result (sym (c.in-Chosen.ensures.met c.args.below c.args.layout.now (scope_in c.args.scope.now))) c.chosen.ensures.wide

pub said-returns-in-Selected-clause-value : goal.said-returns-in-Selected-clause-value
said-returns-in-Selected-clause-value t c =
    gives_as reading_of _ _ c.selected.result (sym (c.in-Selected.ensures.reading c.args.below c.args.layout.now (scope_in c.args.scope.now))) c.selected.ensures.value

pub said-returns-in-Selected-clause-wide : goal.said-returns-in-Selected-clause-wide
said-returns-in-Selected-clause-wide t c =
    told_all _ _ c.selected.result (sym (c.in-Selected.ensures.met c.args.below c.args.layout.now (scope_in c.args.scope.now))) c.selected.ensures.wide

pub said-returns-in_err-operands-in-Chained-clause-wide : goal.said-returns-in_err-operands-in-Chained-clause-wide
said-returns-in_err-operands-in-Chained-clause-wide t c =
    let told = chain_told c.args.below c.args.layout.now (scope_in c.args.scope.now) c.args.e.now c.in-Chained.chain c.in-Chained.operands.now c.in-Chained.ensures Operands Said c.in_err-operands-in-Chained.field-0.0 c.in_err-operands-in-Chained.ensures.wide in
    search (rules, told)

pub said-returns-in_ok-operands-in-Chained-clause-value : goal.said-returns-in_ok-operands-in-Chained-clause-value
said-returns-in_ok-operands-in-Chained-clause-value t c =
    gives_as reading_of _ _ c.chained.result
    (chain_gives c.args.below c.args.layout.now (scope_in c.args.scope.now) c.args.e.now c.in-Chained.chain c.in-Chained.operands.now c.in-Chained.ensures _ _ c.in_ok-operands-in-Chained.ensures.types c.in_ok-operands-in-Chained.ensures.values)
    c.chained.ensures.value

pub said-returns-in_ok-operands-in-Chained-clause-wide : goal.said-returns-in_ok-operands-in-Chained-clause-wide
said-returns-in_ok-operands-in-Chained-clause-wide t c =
    chain_tells c.args.below c.args.layout.now (scope_in c.args.scope.now) c.args.e.now c.in-Chained.chain c.in-Chained.operands.now c.in-Chained.ensures _ c.chained.result c.in_ok-operands-in-Chained.ensures.values c.in_ok-operands-in-Chained.ensures.wide
    c.chained.ensures.wide

pub said-returns-in_err-left-in-Compared-clause-wide : goal.said-returns-in_err-left-in-Compared-clause-wide
said-returns-in_err-left-in-Compared-clause-wide t c =
    let told = compared_left c.args.below c.args.layout.now (scope_in c.args.scope.now) c.args.e.now c.in-Compared.how c.in-Compared.left.now c.in-Compared.right.now c.in-Compared.ensures Said Said c.in_err-left-in-Compared.field-0.0
    c.in_err-left-in-Compared.ensures.wide in
    search (rules, told)

pub said-returns-in_err-right-in-Compared-clause-wide : goal.said-returns-in_err-right-in-Compared-clause-wide
said-returns-in_err-right-in-Compared-clause-wide t c =
    let told = compared_right c.args.below c.args.layout.now (scope_in c.args.scope.now) c.args.e.now c.in-Compared.how c.in-Compared.left.now c.in-Compared.right.now c.in-Compared.ensures Said Said c.in_err-right-in-Compared.field-0.0
    c.in_ok-left-in-Compared.ensures.wide c.in_err-right-in-Compared.ensures.wide in
    search (rules, told)

pub said-returns-in_ok-compared-in-Compared-clause-value : goal.said-returns-in_ok-compared-in-Compared-clause-value
said-returns-in_ok-compared-in-Compared-clause-value t c =
    c.in_ok-compared-in-Compared.ensures
    ∙ compared_gives c.args.below c.args.layout.now (scope_in c.args.scope.now) c.args.e.now c.in-Compared.how c.in-Compared.left.now c.in-Compared.right.now c.in-Compared.ensures _ _ _
    (ap (λ r. r.type) c.in_ok-left-in-Compared.ensures.value) (ap (λ r. r.value) c.in_ok-left-in-Compared.ensures.value) (ap (λ r. r.value) c.in_ok-right-in-Compared.ensures.value)

pub said-returns-in_ok-compared-in-Compared-clause-wide : goal.said-returns-in_ok-compared-in-Compared-clause-wide
said-returns-in_ok-compared-in-Compared-clause-wide t c =
    compared_none c.args.below c.args.layout.now (scope_in c.args.scope.now) c.args.e.now c.in-Compared.how c.in-Compared.left.now c.in-Compared.right.now c.in-Compared.ensures
    c.in_ok-left-in-Compared.ensures.wide c.in_ok-right-in-Compared.ensures.wide

pub said-returns-in_err-operand-in-Applied-clause-wide : goal.said-returns-in_err-operand-in-Applied-clause-wide
said-returns-in_err-operand-in-Applied-clause-wide t c =
    let told = applied_told c.args.below c.args.layout.now (scope_in c.args.scope.now) c.args.e.now c.in-Applied.operator c.in-Applied.operand.now c.in-Applied.ensures Said Said c.in_err-operand-in-Applied.field-0.0 c.in_err-operand-in-Applied.ensures.wide in
    search (rules, told)

pub said-returns-in_ok-operand-in-Applied-clause-value : goal.said-returns-in_ok-operand-in-Applied-clause-value
said-returns-in_ok-operand-in-Applied-clause-value t c =
    gives_as reading_of _ _ c.applied.result
    (applied_gives c.args.below c.args.layout.now (scope_in c.args.scope.now) c.args.e.now c.in-Applied.operator c.in-Applied.operand.now c.in-Applied.ensures (reading_of c.in_ok-operand-in-Applied.operand) c.in_ok-operand-in-Applied.ensures.value)
    c.applied.ensures.value

pub said-returns-in_ok-operand-in-Applied-clause-wide : goal.said-returns-in_ok-operand-in-Applied-clause-wide
said-returns-in_ok-operand-in-Applied-clause-wide t c =
    applied_tells c.args.below c.args.layout.now (scope_in c.args.scope.now) c.args.e.now c.in-Applied.operator c.in-Applied.operand.now c.in-Applied.ensures _ c.applied.result (ap (λ r. r.value) c.in_ok-operand-in-Applied.ensures.value)
    c.in_ok-operand-in-Applied.ensures.wide c.applied.ensures.wide

-- heads
pub head-named-requires : goal.head-named-requires
head-named-requires t c = (omega (arith, c.decreases), tt)

pub head-called-requires : goal.head-called-requires
head-called-requires t c = (omega (arith, c.decreases), tt)

pub head-named-requires-in-Old : goal.head-named-requires-in-Old
head-named-requires-in-Old t c = (omega (arith, c.decreases), tt)

pub head-all_said-requires : goal.head-all_said-requires
head-all_said-requires t c = (omega (arith, c.decreases, ap primary_size c.in-Apply.is, ap sizes c.as_slice.ensures), tt)

pub head-all_said-requires-in-OnBits : goal.head-all_said-requires-in-OnBits
head-all_said-requires-in-OnBits t c = (omega (arith, c.decreases, ap primary_size c.in-OnBits.is, ap sizes c.as_slice-in-OnBits.ensures), tt)

pub head-said-requires : goal.head-said-requires
head-said-requires t c = (omega (arith, c.decreases, ap primary_size c.in-Grouped.is, ap size c.get.ensures), tt)

pub head-returns-in-Name-clause-value : goal.head-returns-in-Name-clause-value
unfolding reached
head-returns-in-Name-clause-value t c =
    gives_as reading_of _ _ c.named.result (ap (λ p. head_reading c.args.below c.args.layout.now (scope_in c.args.scope.now) p []) (sym c.in-Name.is)) c.named.ensures.value

pub head-returns-in-Name-clause-wide : goal.head-returns-in-Name-clause-wide
unfolding reached
head-returns-in-Name-clause-wide t c =
    told_all _ _ c.named.result (ap (λ p. head_met c.args.below c.args.layout.now (scope_in c.args.scope.now) p []) (sym c.in-Name.is)) c.named.ensures.wide

pub head-returns-in-Old-clause-value : goal.head-returns-in-Old-clause-value
head-returns-in-Old-clause-value t c =
    gives_as reading_of _ _ c.named-in-Old.result
    (ap (λ z. name c.args.layout.now (reading_through c.args.below c.args.layout.now) z c.in-Old.name.name false) c.at_entry-entry.ensures ∙ ap (λ p. head_reading c.args.below c.args.layout.now (scope_in c.args.scope.now) p []) (sym c.in-Old.is))
    c.named-in-Old.ensures.value

pub head-returns-in-Old-clause-wide : goal.head-returns-in-Old-clause-wide
head-returns-in-Old-clause-wide t c =
    told_all _ _ c.named-in-Old.result
    (ap (λ z. name_met c.args.layout.now (met_through c.args.below c.args.layout.now) z c.in-Old.name.name false) c.at_entry-entry.ensures ∙ ap (λ p. head_met c.args.below c.args.layout.now (scope_in c.args.scope.now) p []) (sym c.in-Old.is))
    c.named-in-Old.ensures.wide

pub head-returns-in-Grouped-clause-value : goal.head-returns-in-Grouped-clause-value
head-returns-in-Grouped-clause-value t c =
    gives_as reading_of _ _ c.said.result
    (ap (reading_at c.args.below c.args.layout.now (scope_in c.args.scope.now)) c.get.ensures ∙ ap (λ p. head_reading c.args.below c.args.layout.now (scope_in c.args.scope.now) p []) (sym c.in-Grouped.is))
    c.said.ensures.value

pub head-returns-in-Grouped-clause-wide : goal.head-returns-in-Grouped-clause-wide
head-returns-in-Grouped-clause-wide t c =
    told_all _ _ c.said.result
    (ap (met_at c.args.below c.args.layout.now (scope_in c.args.scope.now)) c.get.ensures ∙ ap (λ p. head_met c.args.below c.args.layout.now (scope_in c.args.scope.now) p []) (sym c.in-Grouped.is))
    c.said.ensures.wide

pub head-returns-in_err-operands-in-Apply-clause-wide : goal.head-returns-in_err-operands-in-Apply-clause-wide
head-returns-in_err-operands-in-Apply-clause-wide t c =
    let f = met_at c.args.below c.args.layout.now (scope_in c.args.scope.now) in
    let here = told_as Operands Operands (flat_map f c.as_slice.result.now) (flat_map f c.in-Apply.arguments) c.in_err-operands-in-Apply.field-0.0 (ap (flat_map f) c.as_slice.ensures) c.in_err-operands-in-Apply.ensures.wide in
    let told = told_as Said Said _ (head_met c.args.below c.args.layout.now (scope_in c.args.scope.now) c.args.primary.now []) c.in_err-operands-in-Apply.field-0.0
    (ap (λ p. head_met c.args.below c.args.layout.now (scope_in c.args.scope.now) p []) (sym c.in-Apply.is)) (told_first Operands Said (flat_map f c.in-Apply.arguments) _ c.in_err-operands-in-Apply.field-0.0 here) in
    search (rules, told)

pub head-returns-in_ok-operands-in-Apply-clause-value : goal.head-returns-in_ok-operands-in-Apply-clause-value
head-returns-in_ok-operands-in-Apply-clause-value t c =
    gives_as reading_of _ _ c.called.result
    (ap (λ vs. applied_reading (reading_through c.args.below c.args.layout.now) vs (applied c.args.layout.now (scope_in c.args.scope.now) c.in-Apply.name vs))
    (c.as_slice-in-Apply.ensures ∙ c.in_ok-operands-in-Apply.ensures.values ∙ ap (map (value_at c.args.below c.args.layout.now (scope_in c.args.scope.now))) c.as_slice.ensures)
    ∙ ap (λ p. head_reading c.args.below c.args.layout.now (scope_in c.args.scope.now) p []) (sym c.in-Apply.is))
    c.called.ensures.value

pub head-returns-in_ok-operands-in-Apply-clause-wide : goal.head-returns-in_ok-operands-in-Apply-clause-wide
head-returns-in_ok-operands-in-Apply-clause-wide t c =
    let f = met_at c.args.below c.args.layout.now (scope_in c.args.scope.now) in
    let same = c.as_slice-in-Apply.ensures ∙ c.in_ok-operands-in-Apply.ensures.values ∙ ap (map (value_at c.args.below c.args.layout.now (scope_in c.args.scope.now))) c.as_slice.ensures in
    told_all _ _ c.called.result (ap (λ p. head_met c.args.below c.args.layout.now (scope_in c.args.scope.now) p []) (sym c.in-Apply.is))
    (told_second (flat_map f c.in-Apply.arguments) (applied_met (met_through c.args.below c.args.layout.now) (applied c.args.layout.now (scope_in c.args.scope.now) c.in-Apply.name (map (value_at c.args.below c.args.layout.now (scope_in c.args.scope.now)) c.in-Apply.arguments))) c.called.result
    (ap (λ xs. first_wide (flat_map f xs)) (sym c.as_slice.ensures) ∙ c.in_ok-operands-in-Apply.ensures.wide)
    (told_all _ _ c.called.result (ap (λ vs. applied_met (met_through c.args.below c.args.layout.now) (applied c.args.layout.now (scope_in c.args.scope.now) c.in-Apply.name vs)) same) c.called.ensures.wide))

pub head-returns-in_err-operands-in-OnBits-clause-wide : goal.head-returns-in_err-operands-in-OnBits-clause-wide
head-returns-in_err-operands-in-OnBits-clause-wide t c =
    let f = met_at c.args.below c.args.layout.now (scope_in c.args.scope.now) in
    let told = told_as Operands Said (flat_map f c.as_slice-in-OnBits.result.now) (head_met c.args.below c.args.layout.now (scope_in c.args.scope.now) c.args.primary.now []) c.in_err-operands-in-OnBits.field-0.0
    (ap (flat_map f) c.as_slice-in-OnBits.ensures ∙ ap (λ p. head_met c.args.below c.args.layout.now (scope_in c.args.scope.now) p []) (sym c.in-OnBits.is)) c.in_err-operands-in-OnBits.ensures.wide in
    search (rules, told)

pub head-returns-in_ok-on_bits-in-OnBits-clause-value : goal.head-returns-in_ok-on_bits-in-OnBits-clause-value
head-returns-in_ok-on_bits-in-OnBits-clause-value t c =
    let types = c.as_slice-in-OnBits-2.ensures ∙ c.in_ok-operands-in-OnBits.ensures.types ∙ ap (map (type_at c.args.below c.args.layout.now (scope_in c.args.scope.now))) c.as_slice-in-OnBits.ensures in
    let values = c.as_slice-in-OnBits-3.ensures ∙ c.in_ok-operands-in-OnBits.ensures.values ∙ ap (map (value_at c.args.below c.args.layout.now (scope_in c.args.scope.now))) c.as_slice-in-OnBits.ensures in
    c.in_ok-on_bits-in-OnBits.ensures ∙ (λ i. on_bits_said c.in-OnBits.function (types i) (values i))
    ∙ on_bits_are c.args.below c.args.layout.now (scope_in c.args.scope.now) c.in-OnBits.function c.in-OnBits.arguments
    ∙ ap (λ p. head_reading c.args.below c.args.layout.now (scope_in c.args.scope.now) p []) (sym c.in-OnBits.is)

pub head-returns-in_ok-on_bits-in-OnBits-clause-wide : goal.head-returns-in_ok-on_bits-in-OnBits-clause-wide
head-returns-in_ok-on_bits-in-OnBits-clause-wide t c =
    ap (λ p. first_wide (head_met c.args.below c.args.layout.now (scope_in c.args.scope.now) p [])) c.in-OnBits.is
    ∙ ap (λ xs. first_wide (flat_map (met_at c.args.below c.args.layout.now (scope_in c.args.scope.now)) xs)) (sym c.as_slice-in-OnBits.ensures) ∙ c.in_ok-operands-in-OnBits.ensures.wide

-- primaries with their selections
pub selected-named-requires : goal.selected-named-requires
selected-named-requires t c = (omega (arith, c.decreases), tt)

pub selected-head-requires : goal.selected-head-requires
selected-head-requires t c = (omega (arith, c.decreases), tt)

pub selected-after-requires : goal.selected-after-requires
selected-after-requires t c =
    let rest = rest_size selection_size c.args.selections.now c.in_ok-arrival.arrival.used in
    let part = ap selections_size (take_rest c.args.selections.now c.in_ok-arrival.arrival.used) in
    (omega (arith, c.decreases, rest, part), tt)

pub selected-after-requires-2 : goal.selected-after-requires-2
selected-after-requires-2 t c = (omega (arith, c.decreases), tt)

pub selected-returns-in_err-head-clause-wide : goal.selected-returns-in_err-head-clause-wide
selected-returns-in_err-head-clause-wide t c =
    let told = told_as Said Said _ _ c.in_err-head.field-0.0
    (name_selected_met c.args.below c.args.layout.now (scope_in c.args.scope.now) c.args.primary.now c.args.selections.now c.in-Name.name c.in-Name.is_primed c.in-Name.is (reached_scope (scope_in c.args.scope.now) c.in_ok-arrival.arrival) c.in_ok-arrival.arrival.name (drop c.in_ok-arrival.arrival.used c.args.selections.now)
    (ap (λ q. reached q (scope_in c.args.scope.now) c.in-Name.name c.in-Name.is_primed c.args.selections.now) (sym c.system.ensures) ∙ c.in_ok-arrival.ensures.is)
    (scope_in c.scope-there.result) (drop c.in_ok-arrival.arrival.used c.args.selections.now) c.scope-there.ensures (λ i. (drop c.in_ok-arrival.arrival.used c.args.selections.now)))
    (told_first Said Said (name_met c.args.layout.now (met_through c.args.below c.args.layout.now) (scope_in c.scope-there.result) c.in_ok-arrival.arrival.name c.in-Name.is_primed) (selections_met_at c.args.below c.args.layout.now (scope_in c.args.scope.now) (drop c.in_ok-arrival.arrival.used c.args.selections.now)) c.in_err-head.field-0.0 c.in_err-head.ensures.wide) in
    search (rules, told)

pub selected-returns-in-Name-clause-value : goal.selected-returns-in-Name-clause-value
selected-returns-in-Name-clause-value t c =
    gives_as reading_of _ _ c.after.result
    (name_selected c.args.below c.args.layout.now (scope_in c.args.scope.now) c.args.primary.now c.args.selections.now c.in-Name.name c.in-Name.is_primed c.in-Name.is (reached_scope (scope_in c.args.scope.now) c.in_ok-arrival.arrival) c.in_ok-arrival.arrival.name (drop c.in_ok-arrival.arrival.used c.args.selections.now)
    (ap (λ q. reached q (scope_in c.args.scope.now) c.in-Name.name c.in-Name.is_primed c.args.selections.now) (sym c.system.ensures) ∙ c.in_ok-arrival.ensures.is)
    (scope_in c.scope-there.result) (reading_of c.in_ok-head.head) (take (length c.args.selections.now - c.in_ok-arrival.arrival.used) (drop c.in_ok-arrival.arrival.used c.args.selections.now)) c.scope-there.ensures c.in_ok-head.ensures.value (take_rest c.args.selections.now c.in_ok-arrival.arrival.used))
    c.after.ensures.value

pub selected-returns-in-Name-clause-wide : goal.selected-returns-in-Name-clause-wide
selected-returns-in-Name-clause-wide t c =
    told_all _ _ c.after.result
    (name_selected_met c.args.below c.args.layout.now (scope_in c.args.scope.now) c.args.primary.now c.args.selections.now c.in-Name.name c.in-Name.is_primed c.in-Name.is (reached_scope (scope_in c.args.scope.now) c.in_ok-arrival.arrival) c.in_ok-arrival.arrival.name (drop c.in_ok-arrival.arrival.used c.args.selections.now)
    (ap (λ q. reached q (scope_in c.args.scope.now) c.in-Name.name c.in-Name.is_primed c.args.selections.now) (sym c.system.ensures) ∙ c.in_ok-arrival.ensures.is)
    (scope_in c.scope-there.result) (take (length c.args.selections.now - c.in_ok-arrival.arrival.used) (drop c.in_ok-arrival.arrival.used c.args.selections.now)) c.scope-there.ensures (take_rest c.args.selections.now c.in_ok-arrival.arrival.used))
    (told_second (name_met c.args.layout.now (met_through c.args.below c.args.layout.now) (scope_in c.scope-there.result) c.in_ok-arrival.arrival.name c.in-Name.is_primed) (selections_met_at c.args.below c.args.layout.now (scope_in c.args.scope.now) (take (length c.args.selections.now - c.in_ok-arrival.arrival.used) (drop c.in_ok-arrival.arrival.used c.args.selections.now))) c.after.result c.in_ok-head.ensures.wide c.after.ensures.wide)

pub selected-returns-in_err-head-2 : goal.selected-returns-in_err-head-2
selected-returns-in_err-head-2 t c =
    let told = told_as Said Said _ _ c.in_err-head-2.field-0.0
    (other_selected_met c.args.below c.args.layout.now (scope_in c.args.scope.now) c.args.primary.now c.args.selections.now c.in_default.not-Name c.args.selections.now (λ i. c.args.selections.now))
    (told_first Said Said (head_met c.args.below c.args.layout.now (scope_in c.args.scope.now) c.args.primary.now []) (selections_met_at c.args.below c.args.layout.now (scope_in c.args.scope.now) c.args.selections.now) c.in_err-head-2.field-0.0 c.in_err-head-2.ensures.wide) in
    record { value = search rules; wide = search (rules, told) }

pub selected-returns : goal.selected-returns
selected-returns t c = record {
  value = gives_as reading_of _ _ c.after-2.result
      (other_selected c.args.below c.args.layout.now (scope_in c.args.scope.now) c.args.primary.now c.args.selections.now c.in_default.not-Name (reading_of c.in_ok-head-2.head) c.args.selections.now c.in_ok-head-2.ensures.value (λ i. c.args.selections.now))
      c.after-2.ensures.value;
  wide = told_all _ _ c.after-2.result
      (other_selected_met c.args.below c.args.layout.now (scope_in c.args.scope.now) c.args.primary.now c.args.selections.now c.in_default.not-Name c.args.selections.now (λ i. c.args.selections.now))
      (told_second (head_met c.args.below c.args.layout.now (scope_in c.args.scope.now) c.args.primary.now []) (selections_met_at c.args.below c.args.layout.now (scope_in c.args.scope.now) c.args.selections.now) c.after-2.result c.in_ok-head-2.ensures.wide c.after-2.ensures.wide);
}
