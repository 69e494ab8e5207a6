use Rattle.std.proofs.Common.{refl, ◌++◌, ◌∙◌, sym, ap}
use Rattle.std.specs.List.{flat_map}
use Rattle.uc_syntax.specs.declared.statement.Stmt.TheViews.{If, Case}
use Rattle.uc_syntax.proofs.Added.{added_begin, added_end, added_more, adds_nothing, adds_one, adds_two}
use Rattle.uc_order_rules.specs.Mentions.{calls_in}
use Rattle.uc_uses.specs.Lent.{calls_in_arm}
use Rattle.uc_uses.proofs.CallForms.{form_assert, form_assign, form_assume, form_block, form_call, form_case, form_case_alone, form_for, form_havoc, form_if, form_if_alone, form_local, form_next, form_skip}
use Rattle.uc_uses.proofs.calls.+add_calls.Goals as goal

pub add_block-loop-statement-init : goal.add_block-loop-statement-init
add_block-loop-statement-init t c = added_begin _ _ _

pub add_block-loop-statement-preserved : goal.add_block-loop-statement-preserved
add_block-loop-statement-preserved t c = added_more calls_in _ _ _ _ _ c.statement-item.result c.loop-statement.invariant c.loop-statement-test.true c.statement-item.is c.in_ok-add_statement.ensures

pub add_block-returns : goal.add_block-returns
add_block-returns t c = added_end _ _ _ _ _ c.loop-statement.invariant c.loop-statement-test.false

pub add_arms-loop-arm-init : goal.add_arms-loop-arm-init
add_arms-loop-arm-init t c = added_begin _ _ _

pub add_arms-loop-statement-init : goal.add_arms-loop-statement-init
add_arms-loop-statement-init t c = added_begin _ _ _

pub add_arms-loop-statement-preserved : goal.add_arms-loop-statement-preserved
add_arms-loop-statement-preserved t c = added_more calls_in _ _ _ _ _ c.statement-item.result c.loop-statement.invariant c.loop-statement-test.true c.statement-item.is c.in_ok-add_statement.ensures

pub add_arms-loop-arm-preserved : goal.add_arms-loop-arm-preserved
add_arms-loop-arm-preserved t c =
    added_more calls_in_arm _ _ _ _ _ c.arm-item.result c.loop-arm.invariant c.loop-arm-test.true c.arm-item.is
    (adds_one calls_in_arm c.arm-item.result _ _ refl _ _ (ap (flat_map calls_in) (sym c.as_slice-block.ensures)) (added_end _ _ _ _ _ c.loop-statement.invariant c.loop-statement-test.false))

pub add_arms-returns : goal.add_arms-returns
add_arms-returns t c = added_end _ _ _ _ _ c.loop-arm.invariant c.loop-arm-test.false

pub add_statement-returns-in-Local : goal.add_statement-returns-in-Local
add_statement-returns-in-Local t c = adds_nothing calls_in _ _ _ c.in-Local.is (form_local _ _ _)

pub add_statement-returns-in-Skip : goal.add_statement-returns-in-Skip
add_statement-returns-in-Skip t c = adds_nothing calls_in _ _ _ c.in-Skip.is (form_skip _)

pub add_statement-returns-in-Havoc : goal.add_statement-returns-in-Havoc
add_statement-returns-in-Havoc t c = adds_nothing calls_in _ _ _ c.in-Havoc.is (form_havoc _ _ _)

pub add_statement-returns-in-Next : goal.add_statement-returns-in-Next
add_statement-returns-in-Next t c = adds_nothing calls_in _ _ _ c.in-Next.is (form_next _ _)

pub add_statement-returns-in-Assert : goal.add_statement-returns-in-Assert
add_statement-returns-in-Assert t c = adds_nothing calls_in _ _ _ c.in-Assert.is (form_assert _ _ _)

pub add_statement-returns-in-Assume : goal.add_statement-returns-in-Assume
add_statement-returns-in-Assume t c = adds_nothing calls_in _ _ _ c.in-Assume.is (form_assume _ _)

pub add_statement-returns-in-Assign : goal.add_statement-returns-in-Assign
add_statement-returns-in-Assign t c = adds_nothing calls_in _ _ _ c.in-Assign.is (form_assign _ _ _)

pub add_statement-returns-in_ok-add_block-in-Block : goal.add_statement-returns-in_ok-add_block-in-Block
add_statement-returns-in_ok-add_block-in-Block t c = adds_one calls_in _ _ _ c.in-Block.is _ _ (form_block _ _ ∙ ap (flat_map calls_in) (sym c.as_slice.ensures)) c.in_ok-add_block-in-Block.ensures

pub add_statement-returns-in_ok-push-in-Call : goal.add_statement-returns-in_ok-push-in-Call
add_statement-returns-in_ok-push-in-Call t c = adds_one calls_in _ _ _ c.in-Call.is _ _ (form_call _ _ _ _) c.in_ok-push-in-Call.ensures.ok

pub add_statement-returns-in-None : goal.add_statement-returns-in-None
add_statement-returns-in-None t c =
    adds_one calls_in _ _ _ (c.in-If.is ∙ ap (If _ _) c.in-None.is) _ _ (form_if_alone _ _ ∙ ap (flat_map calls_in_arm) (sym c.as_slice-in-If.ensures)) c.in_ok-add_arms-in-If.ensures

pub add_statement-returns-in_ok-add_block-in-Some : goal.add_statement-returns-in_ok-add_block-in-Some
add_statement-returns-in_ok-add_block-in-Some t c =
    adds_two calls_in _ _ _ (c.in-If.is ∙ ap (If _ _) c.in-Some.is) _ _ _ _
    (form_if _ _ _ ∙ (λ k. flat_map calls_in_arm (sym c.as_slice-in-If.ensures k) ++ flat_map calls_in (sym c.as_slice-in-Some.ensures k)))
    c.in_ok-add_arms-in-If.ensures c.in_ok-add_block-in-Some.ensures

pub add_statement-returns-in-None-otherwise : goal.add_statement-returns-in-None-otherwise
add_statement-returns-in-None-otherwise t c =
    adds_one calls_in _ _ _ (c.in-Case.is ∙ ap (Case _ _) c.in-None-otherwise.is) _ _ (form_case_alone _ _ ∙ ap (flat_map calls_in_arm) (sym c.as_slice-in-Case.ensures)) c.in_ok-add_arms-in-Case.ensures

pub add_statement-returns-in_ok-add_block-in-Some-otherwise : goal.add_statement-returns-in_ok-add_block-in-Some-otherwise
add_statement-returns-in_ok-add_block-in-Some-otherwise t c =
    adds_two calls_in _ _ _ (c.in-Case.is ∙ ap (Case _ _) c.in-Some-otherwise.is) _ _ _ _
    (form_case _ _ _ ∙ (λ k. flat_map calls_in_arm (sym c.as_slice-in-Case.ensures k) ++ flat_map calls_in (sym c.as_slice-in-Some-otherwise.ensures k)))
    c.in_ok-add_arms-in-Case.ensures c.in_ok-add_block-in-Some-otherwise.ensures

pub add_statement-returns-in_ok-add_block-in-For : goal.add_statement-returns-in_ok-add_block-in-For
add_statement-returns-in_ok-add_block-in-For t c = adds_one calls_in _ _ _ c.in-For.is _ _ (form_for _ _ _ _ _ _ ∙ ap (flat_map calls_in) (sym c.as_slice-in-For.ensures)) c.in_ok-add_block-in-For.ensures
