use Rattle.std.proofs.Common.{refl, ap, sym, ◌∙◌, ◌++◌, arith}
use Rattle.uc_syntax.specs.declared.statement.Stmt.TheViews.{If, Case}
use Rattle.uc_step_cycles.specs.Walks.{arms_around, arms_piece, code_piece, statement_piece}
use Rattle.uc_step_cycles.proofs.Forms.{form_assert, form_assume, form_block, form_case, form_case_alone, form_for, form_for_none, form_if, form_if_alone, form_local, form_skip}
use Rattle.uc_step_cycles.proofs.WritingStatementsAdding.{adds_act, adds_none, adds_same, arms_alone, arms_begin, arms_end, arms_more, arms_then, code_begin, code_end, code_more}
use Rattle.uc_step_cycles.proofs.Doing.{assign_does, call_does, havoc_does, next_does}
use Rattle.uc_step_cycles.proofs.walk.+add_code.Goals as goal

pub add_code-loop-statement-init : goal.add_code-loop-statement-init
add_code-loop-statement-init t c = code_begin _ _ _ _

pub add_code-loop-statement-preserved : goal.add_code-loop-statement-preserved
add_code-loop-statement-preserved t c =
    code_more _ _ _ _ _ _ _ c.statement-item.result _ c.loop-statement.invariant c.loop-statement-test.true c.statement-item.is c.in_ok-add_statement.ensures

pub add_code-returns : goal.add_code-returns
add_code-returns t c = code_end _ _ _ _ _ _ c.loop-statement.invariant c.loop-statement-test.false

pub add_arms-loop-arm-init : goal.add_arms-loop-arm-init
add_arms-loop-arm-init t c = arms_begin _ _ _ _

pub add_arms-loop-statement-init : goal.add_arms-loop-statement-init
add_arms-loop-statement-init t c = code_begin _ _ _ _

pub add_arms-loop-statement-preserved : goal.add_arms-loop-statement-preserved
add_arms-loop-statement-preserved t c =
    code_more _ _ _ _ _ _ _ c.statement-item.result _ c.loop-statement.invariant c.loop-statement-test.true c.statement-item.is c.in_ok-add_statement.ensures

pub add_arms-loop-arm-preserved : goal.add_arms-loop-arm-preserved
add_arms-loop-arm-preserved t c =
    arms_more _ _ _ _ _ _ _ _ _ _ c.arm-item.result _ _ c.loop-arm.invariant c.loop-arm-test.true c.arm-item.is c.in_ok-last.ensures.number c.in_ok-last.ensures.contexts c.in_ok-last.ensures.acts c.as_slice-block.ensures
    (code_end _ _ _ _ _ _ c.loop-statement.invariant c.loop-statement-test.false)

pub add_arms-returns : goal.add_arms-returns
add_arms-returns t c = arms_end _ _ _ _ _ _ _ c.loop-arm.invariant c.loop-arm-test.false

pub add_statement-returns-in-Local : goal.add_statement-returns-in-Local
add_statement-returns-in-Local t c = adds_none _ _ _ _ (λ s a. ap (λ x. statement_piece s x a) c.in-Local.is ∙ form_local s _ _ _ a)

pub add_statement-returns-in-Skip : goal.add_statement-returns-in-Skip
add_statement-returns-in-Skip t c = adds_none _ _ _ _ (λ s a. ap (λ x. statement_piece s x a) c.in-Skip.is ∙ form_skip s _ a)

pub add_statement-returns-in-Assert : goal.add_statement-returns-in-Assert
add_statement-returns-in-Assert t c = adds_none _ _ _ _ (λ s a. ap (λ x. statement_piece s x a) c.in-Assert.is ∙ form_assert s _ _ _ a)

pub add_statement-returns-in-Assume : goal.add_statement-returns-in-Assume
add_statement-returns-in-Assume t c = adds_none _ _ _ _ (λ s a. ap (λ x. statement_piece s x a) c.in-Assume.is ∙ form_assume s _ _ a)

pub add_statement-returns-in_ok-add_code-in-Block : goal.add_statement-returns-in_ok-add_code-in-Block
add_statement-returns-in_ok-add_code-in-Block t c =
    adds_same _ _ _ _ _ _ c.in_ok-add_code-in-Block.ensures (λ s known a. ap (λ x. statement_piece s x a) c.in-Block.is ∙ form_block s _ _ a ∙ ap (λ ys. code_piece s ys a) (sym c.as_slice.ensures))

pub add_statement-returns-in_ok-add_havoc-in-Havoc : goal.add_statement-returns-in_ok-add_havoc-in-Havoc
add_statement-returns-in_ok-add_havoc-in-Havoc t c =
    adds_act _ _ _ _ _ _ c.in_ok-add_havoc-in-Havoc.ensures.contexts c.in_ok-add_havoc-in-Havoc.ensures.acts refl (λ s known cs. havoc_does s cs _ _ _ _ _ c.in-Havoc.is)

pub add_statement-returns-in_ok-add_assignment-in-Assign : goal.add_statement-returns-in_ok-add_assignment-in-Assign
add_statement-returns-in_ok-add_assignment-in-Assign t c =
    adds_act _ _ _ _ _ _ c.in_ok-add_assignment-in-Assign.ensures.contexts c.in_ok-add_assignment-in-Assign.ensures.acts refl
    (λ s known cs. assign_does s cs _ _ _ _ _ _ _ c.in-Assign.is c.as_slice-targets.ensures c.as_slice-in-Assign.ensures)

pub add_statement-returns-in_ok-add_call-in-Call : goal.add_statement-returns-in_ok-add_call-in-Call
add_statement-returns-in_ok-add_call-in-Call t c =
    adds_act _ _ _ _ _ _ c.in_ok-add_call-in-Call.ensures.contexts c.in_ok-add_call-in-Call.ensures.acts refl
    (λ s known cs. call_does s cs _ _ _ _ _ _ _ _ _ known c.in-Call.is c.as_slice-targets-in-Call.ensures c.as_slice-arguments.ensures)

pub add_statement-returns-in_ok-push-in-Next : goal.add_statement-returns-in_ok-push-in-Next
add_statement-returns-in_ok-push-in-Next t c =
    adds_act _ _ _ _ _ _ c.in_ok-push-in-Next.ensures.contexts c.in_ok-push-in-Next.ensures.acts refl (λ s known cs. next_does s cs _ _ _ _ c.in-Next.is)

pub add_statement-returns-in-None : goal.add_statement-returns-in-None
add_statement-returns-in-None t c =
    arms_alone _ _ _ _ _ _ _ c.in_ok-last-in-If.ensures
    (λ s a. ap (λ x. statement_piece s x a) (c.in-If.is ∙ ap (If _ _) c.in-None.is) ∙ form_if_alone s _ _ a ∙ ap (λ ys. arms_piece s ys a) (sym c.as_slice-in-If.ensures))

pub add_statement-returns-in_ok-add_code-in-Some : goal.add_statement-returns-in_ok-add_code-in-Some
add_statement-returns-in_ok-add_code-in-Some t c =
    arms_then _ _ _ _ _ _ _ _ _ c.in_ok-last-in-If.ensures c.in_ok-add_code-in-Some.ensures
    (λ s a.
    ap (λ x. statement_piece s x a) (c.in-If.is ∙ ap (If _ _) c.in-Some.is) ∙ form_if s _ _ _ a
    ∙ (λ k. arms_piece s (sym c.as_slice-in-If.ensures k) a ++ code_piece s (sym c.as_slice-in-Some.ensures k) (arms_around s (sym c.as_slice-in-If.ensures k) a)))

pub add_statement-returns-in-None-otherwise : goal.add_statement-returns-in-None-otherwise
add_statement-returns-in-None-otherwise t c =
    arms_alone _ _ _ _ _ _ _ c.in_ok-last-in-Case.ensures
    (λ s a. ap (λ x. statement_piece s x a) (c.in-Case.is ∙ ap (Case _ _) c.in-None-otherwise.is) ∙ form_case_alone s _ _ a ∙ ap (λ ys. arms_piece s ys a) (sym c.as_slice-in-Case.ensures))

pub add_statement-returns-in_ok-add_code-in-Some-otherwise : goal.add_statement-returns-in_ok-add_code-in-Some-otherwise
add_statement-returns-in_ok-add_code-in-Some-otherwise t c =
    arms_then _ _ _ _ _ _ _ _ _ c.in_ok-last-in-Case.ensures c.in_ok-add_code-in-Some-otherwise.ensures
    (λ s a.
    ap (λ x. statement_piece s x a) (c.in-Case.is ∙ ap (Case _ _) c.in-Some-otherwise.is) ∙ form_case s _ _ _ a
    ∙ (λ k. arms_piece s (sym c.as_slice-in-Case.ensures k) a ++ code_piece s (sym c.as_slice-in-Some-otherwise.ensures k) (arms_around s (sym c.as_slice-in-Case.ensures k) a)))

pub add_statement-returns-then-turn_count-eq0 : goal.add_statement-returns-then-turn_count-eq0
add_statement-returns-then-turn_count-eq0 t c =
    adds_none _ _ _ _ (λ s a. ap (λ x. statement_piece s x a) c.in-For.is ∙ form_for_none s _ _ _ _ _ _ _ c.turn_count.ensures c.if-turn_count-eq0.true a)

pub add_statement-returns-in_ok-add_code-in-For : goal.add_statement-returns-in_ok-add_code-in-For
add_statement-returns-in_ok-add_code-in-For t c =
    adds_same _ _ _ _ _ _ c.in_ok-add_code-in-For.ensures
    (λ s known a. ap (λ x. statement_piece s x a) c.in-For.is ∙ form_for s _ _ _ _ _ _ _ c.turn_count.ensures (omega (arith, c.if-turn_count-eq0.false)) a ∙ ap (λ ys. code_piece s ys a) (sym c.as_slice-in-For.ensures))
