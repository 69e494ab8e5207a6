use Rattle.std.proofs.Common.{[], map, reverse, refl, ap, sym, subst, ◌∙◌}
use Rattle.std.specs.Prelude.{IfOk}
use Rattle.uc_rules.specs.Faults.{first_of}
use Rattle.uc_rules.specs.Names.{called_named}
use Rattle.uc_rules.specs.Expressions.{ValueOf, called_outcome, faults_of, judged, judged_all, on_bits_inner, on_bits_outcome, selection_inner, standing, types_of}
use Rattle.uc_rules.proofs.Chains.{first_of_append}
use Rattle.uc_read_names.specs.Reading.{standing_meant}
use Rattle.uc_expression_rules.specs.Judging.{Judges, JudgesAll, JudgesBranches, parts_judged}
use Rattle.uc_expression_rules.specs.Parts.{selection_parts}
use Rattle.uc_expression_rules.proofs.Forms.{all_parts}
use Rattle.uc_expression_rules.proofs.Joined.{chain_of_parts, comparison_of_parts, if_of_parts, none_of, on_bits_alone, on_bits_none, on_bits_noted, primary_found, product_of_parts, right_of_parts, selected_of_parts, selected_told, unary_of_part}
use Rattle.uc_expression_rules.proofs.Turns.{all_begin, all_more, behind_all, behind_none, branches_begin, branches_more, if_ok, selection_found, selects_begin, selects_end, selects_more, type_told}
use Rattle.uc_expression_rules.proofs.judging.+judge.Goals as goal

pub judge_all-loop-expression-init : goal.judge_all-loop-expression-init
judge_all-loop-expression-init t c = subst (JudgesAll c.args.scope.now [] c.args.first.now c.args.first.now) (sym c.new-types.ensures) (all_begin c.args.scope.now c.args.first.now)

pub judge_all-loop-expression-preserved : goal.judge_all-loop-expression-preserved
judge_all-loop-expression-preserved t c =
    all_more c.args.scope.now c.args.expressions.now c.loop-expression.expression-index c.expression-item.result c.expression-item.result c.args.first.now c.loop-expression.first c.judge.new.first c.loop-expression.types c.push.new.self c.in_ok-ty.ty
    c.loop-expression.invariant c.loop-expression-test.true c.expression-item.is c.in_ok-ty.ensures c.in_ok-push.ensures.ok

pub judge_behind-returns-in_default : goal.judge_behind-returns-in_default
judge_behind-returns-in_default t c = behind_none c.args.scope.now c.args.arguments.now c.args.first.now _ c.in_default.ensures.cases c.new-types.ensures

pub judge_behind-loop-argument-init : goal.judge_behind-loop-argument-init
judge_behind-loop-argument-init t c = subst (JudgesAll c.args.scope.now [] c.args.first.now c.args.first.now) (sym c.new-types.ensures) (all_begin c.args.scope.now c.args.first.now)

pub judge_behind-loop-argument-preserved : goal.judge_behind-loop-argument-preserved
judge_behind-loop-argument-preserved t c =
    all_more c.args.scope.now c.in-Some.rest.now c.loop-argument.argument-index c.argument-item.result c.argument-item.result c.args.first.now c.loop-argument.first c.judge.new.first c.loop-argument.types c.push.new.self c.in_ok-ty.ty
    c.loop-argument.invariant c.loop-argument-test.true c.argument-item.is c.in_ok-ty.ensures c.in_ok-push.ensures.ok

pub judge_behind-returns : goal.judge_behind-returns
judge_behind-returns t c =
    behind_all c.args.scope.now c.args.arguments.now _ c.in-Some.rest.now c.loop-argument.argument-index c.args.first.now c.loop-argument.first c.loop-argument.types c.in-Some.ensures.cases.0 c.loop-argument-test.false c.loop-argument.invariant

pub judge_on_bits-returns-in_default : goal.judge_on_bits-returns-in_default
judge_on_bits-returns-in_default t c = on_bits_none c.args.scope.now c.args.function c.args.arguments.now c.args.first.now c.in_default.ensures.cases

pub judge_on_bits-returns-then-is_number_alone : goal.judge_on_bits-returns-then-is_number_alone
judge_on_bits-returns-then-is_number_alone t c =
    on_bits_alone c.args.scope.now c.args.function c.args.arguments.now c.in-Some.amount.now _ c.number_of-number.result c.in_ok-alone.alone c.in_ok-behind.behind c.as_slice.result.now c.args.first.now _ _
    c.in-Some.ensures.cases.0 (c.number_of-number.ensures c.args.scope.now) (sym c.is_number_alone.ensures ∙ c.if-is_number_alone.true) c.in_ok-alone.ensures.type c.in_ok-behind.ensures c.as_slice.ensures c.bits_outcome-outcome.ensures

pub judge_on_bits-returns : goal.judge_on_bits-returns
judge_on_bits-returns t c =
    on_bits_noted c.args.scope.now c.args.function c.args.arguments.now c.in-Some.amount.now _ c.number_of-number.result c.in_ok-ty.ty c.in_ok-others.others c.as_slice-2.result.now c.args.first.now _ _ _
    c.in-Some.ensures.cases.0 (c.number_of-number.ensures c.args.scope.now) (sym c.is_number_alone.ensures ∙ c.if-is_number_alone.false) c.in_ok-ty.ensures c.in_ok-others.ensures c.as_slice-2.ensures c.bits_outcome.ensures

pub judge_chain_of-returns : goal.judge_chain_of-returns
judge_chain_of-returns t c =
    chain_of_parts c.args.scope.now c.args.chain c.args.operands.now c.as_slice.result.now c.args.marks.now c.as_slice-2.result.now c.args.first.now c.judge_all.new.first c.chained.new.first c.in_ok-types.types c.chained.result
    c.in_ok-types.ensures c.as_slice.ensures c.chained.ensures c.as_slice-2.ensures

pub judge_from_right-returns : goal.judge_from_right-returns
judge_from_right-returns t c =
    right_of_parts c.args.scope.now c.args.operands.now c.as_slice.result.now c.args.marks.now c.as_slice-3.result.now c.args.first.now c.judge_all.new.first c.chained.new.first c.in_ok-types.types c.reversed_types-types.result c.chained.result
    c.in_ok-types.ensures c.as_slice.ensures c.reversed_types-types.ensures c.chained.ensures (c.as_slice-3.ensures ∙ c.in_ok-marks.ensures ∙ ap reverse c.as_slice-2.ensures)

pub judge_product-returns : goal.judge_product-returns
judge_product-returns t c =
    product_of_parts c.args.scope.now c.args.operands.now c.as_slice.result.now c.as_slice-2.result.now c.args.marks.now c.as_slice-3.result.now c.as_slice-4.result.now c.args.first.now c.judge_all.new.first c.product.new.first c.in_ok-types.types c.product.result
    c.in_ok-types.ensures c.as_slice.ensures (c.as_slice-4.ensures ∙ c.in_ok-plains.ensures) c.as_slice-2.ensures c.product.ensures c.as_slice-3.ensures

pub judge_branches-loop-branch-init : goal.judge_branches-loop-branch-init
judge_branches-loop-branch-init t c = subst (JudgesBranches c.args.scope.now [] c.args.first.now c.args.first.now) (sym c.new-parts.ensures) (branches_begin c.args.scope.now c.args.first.now)

pub judge_branches-loop-branch-preserved : goal.judge_branches-loop-branch-preserved
judge_branches-loop-branch-preserved t c =
    branches_more c.args.scope.now c.args.branches.now c.loop-branch.branch-index c.branch-item.result c.branch-item.result c.args.first.now c.loop-branch.first c.judge.new.first c.judge-in-loop-branch.new.first c.loop-branch.parts c.push.new.self _
    c.loop-branch.invariant c.loop-branch-test.true c.branch-item.is
    (λ k. record { place = c.branch-item.result.place; begin = c.place_of-begin.ensures c.args.scope.now k; condition = c.in_ok-condition.ensures.type k; value = c.in_ok-value.ensures.type k })
    c.in_ok-condition.ensures.found c.in_ok-value.ensures.found c.in_ok-push.ensures.ok

pub judge-returns-in_ok-otherwise-in-If : goal.judge-returns-in_ok-otherwise-in-If
judge-returns-in_ok-otherwise-in-If t c =
    subst (λ e. Judges c.args.scope.now e c.args.first.now c.conditional.new.first c.conditional.result) (sym c.in-If.is)
    (if_of_parts c.args.scope.now c.in-If.field-0 c.in-If.branches c.as_slice.result.now c.in-If.otherwise c.get.result.now c.in_ok-parts-in-If.parts c.args.first.now c.judge_branches.new.first c.judge.new.first c.conditional.new.first
    c.in_ok-otherwise-in-If.otherwise c.conditional.result c.as_slice.ensures c.get.ensures c.in_ok-parts-in-If.ensures c.in_ok-otherwise-in-If.ensures c.conditional.ensures)

pub judge-returns-in_ok-right-in-Compare : goal.judge-returns-in_ok-right-in-Compare
judge-returns-in_ok-right-in-Compare t c =
    subst (λ e. Judges c.args.scope.now e c.args.first.now c.compared.new.first c.compared.result) (sym c.in-Compare.is)
    (comparison_of_parts c.args.scope.now c.in-Compare.field-0 c.in-Compare.mark c.in-Compare.how c.in-Compare.left c.in-Compare.right c.get-in-Compare.result.now c.get-in-Compare-2.result.now
    c.args.first.now c.judge-in-Compare.new.first c.judge-in-Compare-2.new.first c.compared.new.first
    c.in_ok-left-in-Compare.left c.in_ok-right-in-Compare.right c.compared.result
    c.get-in-Compare.ensures c.get-in-Compare-2.ensures c.in_ok-left-in-Compare.ensures c.in_ok-right-in-Compare.ensures c.compared.ensures)

pub judge-returns-in_ok-operand-in-Unary : goal.judge-returns-in_ok-operand-in-Unary
judge-returns-in_ok-operand-in-Unary t c =
    subst (λ e. Judges c.args.scope.now e c.args.first.now c.signed.new.first c.signed.result) (sym c.in-Unary.is)
    (unary_of_part c.args.scope.now c.in-Unary.place c.in-Unary.operator c.in-Unary.operand c.get-in-Unary.result.now
    c.args.first.now c.judge-in-Unary.new.first c.signed.new.first c.in_ok-operand-in-Unary.operand c.signed.result
    c.get-in-Unary.ensures c.in_ok-operand-in-Unary.ensures c.signed.ensures)

pub judge-returns-in_ok-start-in-Selected : goal.judge-returns-in_ok-start-in-Selected
judge-returns-in_ok-start-in-Selected t c =
    if_ok c.judge_selected.result
    (λ u told. subst (λ e. Judges c.args.scope.now e c.args.first.now c.judge_selected.new.first u) (sym c.in-Selected.is)
    (selected_of_parts c.args.scope.now c.in-Selected.place c.in-Selected.primary c.in-Selected.selections (standing_meant c.args.scope.now.system.modules c.in_ok-start-in-Selected.start) c.args.first.now c.judge_primary.new.first c.judge_selected.new.first u
    c.in_ok-start-in-Selected.ensures.found c.in_ok-start-in-Selected.ensures.stands told)) c.judge_selected.ensures

pub judge_selected-returns : goal.judge_selected-returns
judge_selected-returns t c =
    let ms = c.args.scope.now.system.modules in
    if_ok c.judge_selections.result
    (λ u. selected_told c.args.scope.now c.args.begin (standing_meant ms c.args.start) (standing_meant ms c.note_standing-start.result) c.args.selections.now c.as_slice.result.now
    c.args.first.now c.note_standing-start.new.first c.judge_selections.new.first u (c.note_standing-start.ensures.faults ms) (c.note_standing-start.ensures.told ms) c.as_slice.ensures) c.judge_selections.ensures

pub judge_primary-returns-in-Truth : goal.judge_primary-returns-in-Truth
judge_primary-returns-in-Truth t c = primary_found c.in-Truth.is refl (none_of c.args.first.now)

pub judge_primary-returns-in-Number : goal.judge_primary-returns-in-Number
judge_primary-returns-in-Number t c =
    primary_found c.in-Number.is (c.of_outcome.ensures c.args.scope.now.system.modules ∙ ap (standing c.args.begin) c.number_literal.ensures) (none_of c.args.first.now)

pub judge_primary-returns-in-BitsLiteral : goal.judge_primary-returns-in-BitsLiteral
judge_primary-returns-in-BitsLiteral t c =
    primary_found c.in-BitsLiteral.is (c.of_outcome-in-BitsLiteral.ensures c.args.scope.now.system.modules ∙ ap (standing c.args.begin) c.bits_literal.ensures) (none_of c.args.first.now)

pub judge_primary-returns-in-Name : goal.judge_primary-returns-in-Name
judge_primary-returns-in-Name t c = if_ok c.name_standing.result (λ s is. primary_found c.in-Name.is is (none_of c.args.first.now)) c.name_standing.ensures

pub judge_primary-returns-in-Old : goal.judge_primary-returns-in-Old
judge_primary-returns-in-Old t c = if_ok c.old_standing.result (λ s is. primary_found c.in-Old.is is (none_of c.args.first.now)) c.old_standing.ensures

pub judge_primary-returns-in_ok-outcome-in-Apply : goal.judge_primary-returns-in_ok-outcome-in-Apply
judge_primary-returns-in_ok-outcome-in-Apply t c =
    let parts = ap (parts_judged c.args.scope.now) c.as_slice.ensures ∙ sym (all_parts c.args.scope.now c.in-Apply.arguments) in
    primary_found c.in-Apply.is
    (c.of_outcome-in-Apply.ensures c.args.scope.now.system.modules ∙ ap (standing c.args.begin) (c.in_ok-outcome-in-Apply.ensures
    ∙ ap (called_outcome c.args.scope.now c.in-Apply.name (called_named c.args.scope.now.system c.args.scope.now.home c.in-Apply.name)) (c.as_slice-in-Apply.ensures ∙ c.in_ok-types-in-Apply.ensures.types ∙ ap types_of parts)))
    (c.in_ok-types-in-Apply.ensures.found ∙ ap (λ js. first_of c.args.first.now (faults_of js)) parts)

pub judge_primary-returns-in_ok-outcome-in-OnBits : goal.judge_primary-returns-in_ok-outcome-in-OnBits
judge_primary-returns-in_ok-outcome-in-OnBits t c =
    primary_found c.in-OnBits.is
    (c.of_outcome-in-OnBits.ensures c.args.scope.now.system.modules ∙ ap (standing c.args.begin) (c.in_ok-outcome-in-OnBits.ensures.outcome ∙ ap (λ es. on_bits_outcome c.in-OnBits.function (judged_all (map judged es) c.args.scope.now)) c.as_slice-in-OnBits.ensures))
    (c.in_ok-outcome-in-OnBits.ensures.found ∙ ap (λ es. first_of c.args.first.now (on_bits_inner c.in-OnBits.function (judged_all (map judged es) c.args.scope.now))) c.as_slice-in-OnBits.ensures)

pub judge_primary-returns-in_ok-ty-in-Grouped : goal.judge_primary-returns-in_ok-ty-in-Grouped
judge_primary-returns-in_ok-ty-in-Grouped t c =
    primary_found c.in-Grouped.is
    (ap ValueOf (c.in_ok-ty-in-Grouped.ensures.type ∙ ap (λ e. (judged e c.args.scope.now).type) c.get.ensures))
    (c.in_ok-ty-in-Grouped.ensures.found ∙ ap (λ e. first_of c.args.first.now (judged e c.args.scope.now).faults) c.get.ensures)

pub judge_selections-loop-selection-init : goal.judge_selections-loop-selection-init
judge_selections-loop-selection-init t c = selects_begin c.args.scope.now c.args.begin (standing_meant c.args.scope.now.system.modules c.args.start) c.args.selections.now c.args.first.now

pub judge_selections-loop-selection-preserved : goal.judge_selections-loop-selection-preserved
judge_selections-loop-selection-preserved t c =
    let ms = c.args.scope.now.system.modules in
    let part = selection_parts c.selection-item.result in
    selects_more c.args.scope.now c.args.begin (standing_meant ms c.args.start) c.args.selections.now c.args.first.now c.loop-selection.selection-index (standing_meant ms c.loop-selection.before) (standing_meant ms c.in_ok-before.before)
    c.loop-selection.first (first_of c.loop-selection.first (selection_inner c.args.scope.now part)) c.judge_selection.new.first c.selection-item.result c.selection-item.result part
    c.loop-selection.invariant c.loop-selection-test.true c.selection-item.is refl refl c.in_ok-before.ensures

pub judge_selection-returns-in-Field : goal.judge_selection-returns-in-Field
judge_selection-returns-in-Field t c = if_ok c.after_field.result (λ s held. selection_found c.args.first.now c.in-Field.is (none_of c.args.first.now) held) c.after_field.ensures

pub judge_selection-returns-in-Copy : goal.judge_selection-returns-in-Copy
judge_selection-returns-in-Copy t c = selection_found c.args.first.now c.in-Copy.is (none_of c.args.first.now) c.after_copy.ensures

pub judge_selection-returns-in_ok-index-in-Element : goal.judge_selection-returns-in_ok-index-in-Element
judge_selection-returns-in_ok-index-in-Element t c =
    if_ok c.after_element.result
    (λ s held. selection_found c.args.first.now c.in-Element.is c.in_ok-index-in-Element.ensures.found (held (judged c.in-Element.index) c.in_ok-index-in-Element.ensures.type)) c.after_element.ensures

pub judge_selection-returns-in_ok-value-in-Update : goal.judge_selection-returns-in_ok-value-in-Update
judge_selection-returns-in_ok-value-in-Update t c =
    if_ok c.after_update.result
    (λ s held. selection_found c.args.first.now c.in-Update.is
    (c.in_ok-value-in-Update.ensures.found ∙ ap (λ o. first_of o (judged c.in-Update.value c.args.scope.now).faults) c.in_ok-index-in-Update.ensures.found ∙ sym (first_of_append c.args.first.now (judged c.in-Update.index c.args.scope.now).faults (judged c.in-Update.value c.args.scope.now).faults))
    (held (judged c.in-Update.index) (judged c.in-Update.value) c.in_ok-index-in-Update.ensures.type c.in_ok-value-in-Update.ensures.type)) c.after_update.ensures

pub judge_selection-returns-in-Extract : goal.judge_selection-returns-in-Extract
judge_selection-returns-in-Extract t c = selection_found c.args.first.now c.in-Extract.is (none_of c.args.first.now) c.after_extract.ensures

pub judge_selections-returns : goal.judge_selections-returns
judge_selections-returns t c =
    let ms = c.args.scope.now.system.modules in
    selects_end c.args.scope.now c.args.begin (standing_meant ms c.args.start) c.args.selections.now c.args.first.now c.loop-selection.selection-index (standing_meant ms c.loop-selection.before) (standing_meant ms c.read-read.result) c.loop-selection.first c.note_standing-told.new.first c.into_type.result
    c.loop-selection.invariant c.loop-selection-test.false c.read-read.ensures (c.note_standing-told.ensures.faults ms) (type_told _ _ _ (c.into_type.ensures ms) (c.note_standing-told.ensures.told ms))
