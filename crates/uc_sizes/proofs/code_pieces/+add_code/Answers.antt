use Rattle.std.proofs.Common.{refl, ap, sym, ◌∙◌}
use Rattle.uc_syntax.specs.declared.statement.Stmt.TheViews.{If, Case}
use Rattle.uc_sizes.specs.Pieces.{arm_amount, statement_amount}
use Rattle.uc_sizes.proofs.Cut.{turned}
use Rattle.uc_sizes.proofs.CodePiecesSums.{adds_same, adds_two, ends_four, ends_same, ends_three, ends_turned, ends_two, summed_begin, summed_end, summed_more}
use Rattle.uc_sizes.proofs.CodePiecesForms.{alone_is, arm_is, block_is, call_is, choice_alone_is, choice_is, expression_is, form_assert, form_assign, form_assume, form_block, form_call, form_case, form_case_alone, form_for, form_havoc, form_if, form_if_alone, form_local, form_next, form_skip, loop_is, sources_are, step_is}
use Rattle.uc_sizes.proofs.code_pieces.+add_code.Goals as goal

pub add_code-loop-statement-init : goal.add_code-loop-statement-init
add_code-loop-statement-init t c = summed_begin _ _ _ _

pub add_code-loop-statement-preserved : goal.add_code-loop-statement-preserved
add_code-loop-statement-preserved t c =
    summed_more statement_amount _ _ _ _ _ _ c.statement-item.result _ c.loop-statement.invariant c.loop-statement-test.true c.statement-item.is c.in_ok-add_statement.ensures

pub add_code-returns : goal.add_code-returns
add_code-returns t c = summed_end _ _ _ _ _ _ c.loop-statement.invariant c.loop-statement-test.false

pub add_arms-loop-arm-init : goal.add_arms-loop-arm-init
add_arms-loop-arm-init t c = summed_begin _ _ _ _

pub add_arms-loop-statement-init : goal.add_arms-loop-statement-init
add_arms-loop-statement-init t c = summed_begin _ _ _ _

pub add_arms-loop-statement-preserved : goal.add_arms-loop-statement-preserved
add_arms-loop-statement-preserved t c =
    summed_more statement_amount _ _ _ _ _ _ c.statement-item.result _ c.loop-statement.invariant c.loop-statement-test.true c.statement-item.is c.in_ok-add_statement.ensures

pub add_arms-loop-arm-preserved : goal.add_arms-loop-arm-preserved
add_arms-loop-arm-preserved t c =
    summed_more arm_amount _ _ _ _ _ _ c.arm-item.result _ c.loop-arm.invariant c.loop-arm-test.true c.arm-item.is
    (adds_two _ _ _ _ _ _ _ c.in_ok-push.ensures (summed_end _ _ _ _ _ _ c.loop-statement.invariant c.loop-statement-test.false) (λ s. arm_is s _ _ c.as_slice-block.ensures))

pub add_arms-returns : goal.add_arms-returns
add_arms-returns t c = summed_end _ _ _ _ _ _ c.loop-arm.invariant c.loop-arm-test.false

pub add_statement-returns-in-Local : goal.add_statement-returns-in-Local
add_statement-returns-in-Local t c = adds_same _ _ _ _ _ c.in_ok-push.ensures (λ s. alone_is s _ _ c.in-Local.is (form_local s _ _ _))

pub add_statement-returns-in-Skip : goal.add_statement-returns-in-Skip
add_statement-returns-in-Skip t c = adds_same _ _ _ _ _ c.in_ok-push.ensures (λ s. alone_is s _ _ c.in-Skip.is (form_skip s _))

pub add_statement-returns-in-Havoc : goal.add_statement-returns-in-Havoc
add_statement-returns-in-Havoc t c = adds_same _ _ _ _ _ c.in_ok-push.ensures (λ s. alone_is s _ _ c.in-Havoc.is (form_havoc s _ _ _))

pub add_statement-returns-in-Block : goal.add_statement-returns-in-Block
add_statement-returns-in-Block t c =
    ends_two _ _ _ _ _ _ _ _ c.in_ok-push.ensures c.add_code.ensures (λ s. block_is s _ _ _ _ c.in-Block.is (form_block s _ _) c.as_slice.ensures)

pub add_statement-returns-in-Assert : goal.add_statement-returns-in-Assert
add_statement-returns-in-Assert t c = ends_two _ _ _ _ _ _ _ _ c.in_ok-push.ensures c.push-in-Assert.ensures (λ s. expression_is s _ _ _ c.in-Assert.is (form_assert s _ _ _))

pub add_statement-returns-in-Assume : goal.add_statement-returns-in-Assume
add_statement-returns-in-Assume t c = ends_two _ _ _ _ _ _ _ _ c.in_ok-push.ensures c.push-in-Assume.ensures (λ s. expression_is s _ _ _ c.in-Assume.is (form_assume s _ _))

pub add_statement-returns-in-Next : goal.add_statement-returns-in-Next
add_statement-returns-in-Next t c = ends_two _ _ _ _ _ _ _ _ c.in_ok-push.ensures c.push-in-Next.ensures (λ s. step_is s _ _ _ c.in-Next.is (form_next s _ _))

pub add_statement-returns-in_ok-add_indices-in-Assign : goal.add_statement-returns-in_ok-add_indices-in-Assign
add_statement-returns-in_ok-add_indices-in-Assign t c =
    ends_three _ _ _ _ _ _ _ _ _ _ c.in_ok-push.ensures c.in_ok-add_indices-in-Assign.ensures c.add_expressions.ensures
    (λ s. sources_are s _ _ _ _ _ _ c.in-Assign.is (form_assign s _ _ _) c.as_slice-in-Assign.ensures c.as_slice-in-Assign-2.ensures)

pub add_statement-returns-in_ok-add_expressions-in-Call : goal.add_statement-returns-in_ok-add_expressions-in-Call
add_statement-returns-in_ok-add_expressions-in-Call t c =
    ends_four _ _ _ _ _ _ _ _ _ _ _ _ c.in_ok-push.ensures c.in_ok-add_indices-in-Call.ensures c.in_ok-add_expressions-in-Call.ensures c.push-in-Call.ensures
    (λ s. call_is s _ _ _ _ _ _ _ c.in-Call.is (form_call s _ _ _ _) c.as_slice-in-Call.ensures c.as_slice-in-Call-2.ensures)

pub add_statement-returns-in-For : goal.add_statement-returns-in-For
add_statement-returns-in-For t c =
    ends_turned _ _ _ _ _ _ _ _ _ _ c.in_ok-push.ensures c.add_code-in-For.ensures (turned _ _ _ _ c.turn_count-turns.ensures c.times_of.ensures)
    (λ s. loop_is s _ _ _ _ _ c.in-For.is (form_for s _ _ _ _ _ _) c.as_slice-in-For.ensures)

pub add_statement-returns-in-None : goal.add_statement-returns-in-None
add_statement-returns-in-None t c =
    adds_two _ _ _ _ _ _ _ c.in_ok-push.ensures c.in_ok-add_arms-in-If.ensures (λ s. choice_alone_is s _ _ _ _ (c.in-If.is ∙ ap (If _ _) c.in-None.is) (form_if_alone s _ _) c.as_slice-in-If.ensures)

pub add_statement-returns-in-Some : goal.add_statement-returns-in-Some
add_statement-returns-in-Some t c =
    ends_three _ _ _ _ _ _ _ _ _ _ c.in_ok-push.ensures c.in_ok-add_arms-in-If.ensures c.add_code-in-Some.ensures
    (λ s. choice_is s _ _ _ _ _ _ (c.in-If.is ∙ ap (If _ _) c.in-Some.is) (form_if s _ _ _) c.as_slice-in-If.ensures c.as_slice-in-Some.ensures)

pub add_statement-returns-in-None-otherwise : goal.add_statement-returns-in-None-otherwise
add_statement-returns-in-None-otherwise t c =
    adds_two _ _ _ _ _ _ _ c.in_ok-push.ensures c.in_ok-add_arms-in-Case.ensures
    (λ s. choice_alone_is s _ _ _ _ (c.in-Case.is ∙ ap (Case _ _) c.in-None-otherwise.is) (form_case_alone s _ _) c.as_slice-in-Case.ensures)

pub add_statement-returns-in-Some-otherwise : goal.add_statement-returns-in-Some-otherwise
add_statement-returns-in-Some-otherwise t c =
    ends_three _ _ _ _ _ _ _ _ _ _ c.in_ok-push.ensures c.in_ok-add_arms-in-Case.ensures c.add_code-in-Some-otherwise.ensures
    (λ s. choice_is s _ _ _ _ _ _ (c.in-Case.is ∙ ap (Case _ _) c.in-Some-otherwise.is) (form_case s _ _ _) c.as_slice-in-Case.ensures c.as_slice-in-Some-otherwise.ensures)
