use Rattle.std.proofs.Common.{◌≡◌, drop, refl, sym, rules}
use Rattle.uc_grammar.specs.declared.word.Kind.TheVariants.{Comma}
use Rattle.uc_print_laws.specs.Expressions.{printed_expr}
use Rattle.uc_print_laws.specs.Text.{written}
use Rattle.uc_print_laws.proofs.Written.{behind_more, behind_end, joined_begin, each_more, each_end}
use Rattle.uc_printer.specs.PrintExpressionsParts.{operand, shown_branch, shown_selection}
use Rattle.uc_printer.proofs.ExpressionWords.{branch_text, element_text, update_text, sum_begin, sum_more, sum_stops, sum_end}
use Rattle.uc_printer.proofs.expression_texts.+print_expressions.Goals as goal
use Rattle.uc_printer.proofs.expression_texts.+print_expressions.Goals.{put_selections-in-Field+in_ok-put_sign-in-Field+in_ok-put_name-in-Field, put_selections-in-Copy+in_ok-put_sign-in-Copy+in_ok-put_sign-in-Copy-2, put_selections-in-Element+in_ok-put_sign-in-Element+in_ok-put_expression-in-Element+in_ok-put_sign-in-Element-2, put_selections-in-Update+in_ok-put_sign-in-Update+in_ok-put_expression-in-Update+in_ok-put_sign-in-Update-2+in_ok-put_expression-in-Update-2+in_ok-put_sign-in-Update-3, put_selections-in-Extract+in_ok-put_sign-in-Extract+in_ok-put_sign-in-Extract-2+in_ok-put_sign-in-Extract-3+in_ok-put_sign-in-Extract-4+in_ok-put_sign-in-Extract-5}

pub put_chain-rest-init : goal.put_chain-rest-init
put_chain-rest-init t c = joined_begin c.args.names.now c.args.sign (operand c.args.below) c.in-Some.first.now c.in-Some.rest.now c.args.operands.now c.args.page.now c.put_operand.new.page (search rules) c.in_ok-put_operand.ensures

pub put_chain-rest-preserved : goal.put_chain-rest-preserved
put_chain-rest-preserved t c = behind_more c.args.names.now c.args.sign (operand c.args.below) c.rest.one-index c.in-Some.rest.now c.one-item.result c.rest.page c.put_operand-in-rest.new.page _ c.rest-test.true c.one-item.is c.rest.invariant
    (rw (c.in_ok-put_operand-2.ensures, c.in_ok-put_sign.ensures) refl)

pub put_chain-returns : goal.put_chain-returns
put_chain-returns t c = behind_end c.args.names.now c.args.sign (operand c.args.below) c.rest.one-index c.in-Some.rest.now c.rest.page _ c.rest-test.false c.rest.invariant

pub put_expressions-rest-init : goal.put_expressions-rest-init
put_expressions-rest-init t c = joined_begin c.args.names.now Comma printed_expr c.in-Some.first.now c.in-Some.rest.now c.args.expressions.now c.args.page.now c.put_expression.new.page (search rules) c.in_ok-put_expression.ensures

pub put_expressions-rest-preserved : goal.put_expressions-rest-preserved
put_expressions-rest-preserved t c = behind_more c.args.names.now Comma printed_expr c.rest.one-index c.in-Some.rest.now c.one-item.result c.rest.page c.put_expression-in-rest.new.page _ c.rest-test.true c.one-item.is c.rest.invariant
    (rw (c.in_ok-put_expression-2.ensures, c.in_ok-put_sign.ensures) refl)

pub put_expressions-returns : goal.put_expressions-returns
put_expressions-returns t c = behind_end c.args.names.now Comma printed_expr c.rest.one-index c.in-Some.rest.now c.rest.page _ c.rest-test.false c.rest.invariant

pub put_sum-rest-init : goal.put_sum-rest-init
put_sum-rest-init t c = sum_begin c.args.names.now c.args.signs.now c.in-Some.first.now c.in-Some.rest.now c.args.operands.now c.args.page.now c.put_operand.new.page (search rules) c.in_ok-put_operand.ensures

pub put_sum-returns : goal.put_sum-returns
put_sum-returns t c = sum_end c.args.names.now c.rest.one-index c.rest.left.now c.in-Some.rest.now c.rest.page _ c.rest-test.false c.rest.invariant

pub put_branches-branches-preserved : goal.put_branches-branches-preserved
put_branches-branches-preserved t c = each_more c.args.names.now shown_branch c.branches.one-index c.args.branches.now c.one-item.result c.branches.page c.put_sign-in-branches-2.new.page _ c.branches-test.true c.one-item.is c.branches.invariant
    (rw (c.in_ok-put_sign-3.ensures, c.in_ok-put_expression-2.ensures, c.in_ok-put_sign-2.ensures, c.in_ok-put_expression.ensures, c.in_ok-put_sign.ensures) (sym (branch_text c.args.names.now c.branches.page c.one-item.result)))

pub put_branches-returns : goal.put_branches-returns
put_branches-returns t c = each_end c.args.names.now shown_branch c.branches.one-index c.args.branches.now c.branches.page _ c.branches-test.false c.branches.invariant

pub put_selections-returns : goal.put_selections-returns
put_selections-returns t c = each_end c.args.names.now shown_selection c.selections.one-index c.args.selections.now c.selections.page _ c.selections-test.false c.selections.invariant

pub put_sum-returns-in_default-split_first : goal.put_sum-returns-in_default-split_first
put_sum-returns-in_default-split_first t c = sum_stops c.args.names.now c.rest.left.now (drop c.rest.one-index c.in-Some.rest.now) c.rest.page _ c.in_default-split_first.ensures.cases c.rest.invariant

pub put_sum-rest-preserved : goal.put_sum-rest-preserved
put_sum-rest-preserved t c = sum_more c.args.names.now c.rest.one-index c.rest.left.now c.in-Some-split_first.more.now c.in-Some-split_first.sign.now c.in-Some.rest.now c.one-item.result c.rest.page c.put_operand-in-rest.new.page _ c.rest-test.true c.one-item.is (search rules) c.rest.invariant
    (rw (c.in_ok-put_operand-2.ensures, c.in_ok-put_sign.ensures, c.sum_sign.ensures) refl)

pub put_selections-selections-preserved : goal.put_selections-selections-preserved
put_selections-selections-preserved t c =
    let names = c.args.names.now in
    let page = c.selections.page in
    let put : c.match-one.page ≡ written names page (shown_selection c.one-item.result).words = elim c.match-one.branch [
      | put_selections-in-Field+in_ok-put_sign-in-Field+in_ok-put_name-in-Field w ↦ rw (w.page-is, w.in_ok-put_name-in-Field.ensures, w.in_ok-put_sign-in-Field.ensures, w.in-Field.is) refl
      | put_selections-in-Copy+in_ok-put_sign-in-Copy+in_ok-put_sign-in-Copy-2 w ↦ rw (w.page-is, w.in_ok-put_sign-in-Copy-2.ensures, w.in_ok-put_sign-in-Copy.ensures, w.in-Copy.is) refl
      | put_selections-in-Element+in_ok-put_sign-in-Element+in_ok-put_expression-in-Element+in_ok-put_sign-in-Element-2 w ↦ rw (w.page-is, w.in_ok-put_sign-in-Element-2.ensures, w.in_ok-put_expression-in-Element.ensures, w.in_ok-put_sign-in-Element.ensures, w.in-Element.is)
          (sym (element_text names page w.in-Element.field-0 w.in-Element.index))
      | put_selections-in-Update+in_ok-put_sign-in-Update+in_ok-put_expression-in-Update+in_ok-put_sign-in-Update-2+in_ok-put_expression-in-Update-2+in_ok-put_sign-in-Update-3 w ↦ rw (w.page-is, w.in_ok-put_sign-in-Update-3.ensures, w.in_ok-put_expression-in-Update-2.ensures, w.in_ok-put_sign-in-Update-2.ensures, w.in_ok-put_expression-in-Update.ensures, w.in_ok-put_sign-in-Update.ensures, w.in-Update.is)
          (sym (update_text names page w.in-Update.field-0 w.in-Update.index w.in-Update.value))
      | put_selections-in-Extract+in_ok-put_sign-in-Extract+in_ok-put_sign-in-Extract-2+in_ok-put_sign-in-Extract-3+in_ok-put_sign-in-Extract-4+in_ok-put_sign-in-Extract-5 w ↦ rw (w.page-is, w.in_ok-put_sign-in-Extract-5.ensures, w.in_ok-put_sign-in-Extract-4.ensures, w.in_ok-put_sign-in-Extract-3.ensures, w.in_ok-put_sign-in-Extract-2.ensures, w.in_ok-put_sign-in-Extract.ensures, w.in-Extract.is) refl
    ] in
    each_more names shown_selection c.selections.one-index c.args.selections.now c.one-item.result page c.match-one.page _ c.selections-test.true c.one-item.is c.selections.invariant put
