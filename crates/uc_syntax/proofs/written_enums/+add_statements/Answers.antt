use Rattle.std.proofs.Common.{ℕ, List, None, Some, ◌++◌, ◌∙◌, sym, ap}
use Rattle.std.specs.List.{flat_map}
use Rattle.uc_syntax.specs.declared.statement.Arm.{Arm}
use Rattle.uc_syntax.specs.declared.statement.Stmt.{Stmt}
use Rattle.uc_syntax.specs.declared.statement.Stmt.TheViews.{If, Case}
use Rattle.uc_syntax.specs.Labels.{optional_labels, stmt_labels}
use Rattle.uc_syntax.proofs.Added.{append_nil, adds_nothing, adds_one, adds_two}
use Rattle.uc_syntax.proofs.Labels.{labels_skip, labels_assert, labels_assume, labels_havoc, labels_assign, labels_if, labels_case, labels_for, labels_call, labels_next}
use Rattle.uc_syntax.proofs.written_enums.+add_statements.Goals as goal

abbrev in_arms : List (Arm Stmt) → List (List ℕ)
in_arms arms = flat_map (λ a. flat_map stmt_labels a.body) arms

abbrev in_block : List Stmt → List (List ℕ)
in_block block = flat_map stmt_labels block

pub add_statement-returns-in-Skip : goal.add_statement-returns-in-Skip
add_statement-returns-in-Skip t c = adds_nothing stmt_labels _ _ _ c.in-Skip.is (labels_skip _)

pub add_statement-returns-in-Assert : goal.add_statement-returns-in-Assert
add_statement-returns-in-Assert t c = adds_nothing stmt_labels _ _ _ c.in-Assert.is (labels_assert _ _ _)

pub add_statement-returns-in-Assume : goal.add_statement-returns-in-Assume
add_statement-returns-in-Assume t c = adds_nothing stmt_labels _ _ _ c.in-Assume.is (labels_assume _ _)

pub add_statement-returns-in-Havoc : goal.add_statement-returns-in-Havoc
add_statement-returns-in-Havoc t c = adds_nothing stmt_labels _ _ _ c.in-Havoc.is (labels_havoc _ _ _)

pub add_statement-returns-in-Assign : goal.add_statement-returns-in-Assign
add_statement-returns-in-Assign t c = adds_nothing stmt_labels _ _ _ c.in-Assign.is (labels_assign _ _ _)

pub add_statement-returns-in-Call : goal.add_statement-returns-in-Call
add_statement-returns-in-Call t c = adds_nothing stmt_labels _ _ _ c.in-Call.is (labels_call _ _ _ _)

pub add_statement-returns-in-Next : goal.add_statement-returns-in-Next
add_statement-returns-in-Next t c = adds_nothing stmt_labels _ _ _ c.in-Next.is (labels_next _ _)

pub add_statement-returns-in_ok-add_block-in-For : goal.add_statement-returns-in_ok-add_block-in-For
add_statement-returns-in_ok-add_block-in-For t c =
    adds_two stmt_labels _ _ _ c.in-For.is _ _ _ _
    (labels_for _ _ _ _ _ _ ∙ (λ k. optional_labels c.in-For.ty ++ in_block (sym c.as_slice-in-For.ensures k)))
    c.in_ok-add_optional_type-in-For.ensures c.in_ok-add_block-in-For.ensures

pub add_statement-returns-in-None : goal.add_statement-returns-in-None
add_statement-returns-in-None t c =
    adds_one stmt_labels _ _ _ (c.in-If.is ∙ ap (If _ _) c.in-None.is) _ _
    (labels_if _ _ None ∙ append_nil _ ∙ ap in_arms (sym c.as_slice-in-If.ensures)) c.in_ok-add_arms-in-If.ensures

pub add_statement-returns-in_ok-add_block-in-Some : goal.add_statement-returns-in_ok-add_block-in-Some
add_statement-returns-in_ok-add_block-in-Some t c =
    adds_two stmt_labels _ _ _ (c.in-If.is ∙ ap (If _ _) c.in-Some.is) _ _ _ _
    (labels_if _ _ (Some _) ∙ (λ k. in_arms (sym c.as_slice-in-If.ensures k) ++ in_block (sym c.as_slice-in-Some.ensures k)))
    c.in_ok-add_arms-in-If.ensures c.in_ok-add_block-in-Some.ensures

pub add_statement-returns-in-None-otherwise : goal.add_statement-returns-in-None-otherwise
add_statement-returns-in-None-otherwise t c =
    adds_one stmt_labels _ _ _ (c.in-Case.is ∙ ap (Case _ _) c.in-None-otherwise.is) _ _
    (labels_case _ _ None ∙ append_nil _ ∙ ap in_arms (sym c.as_slice-in-Case.ensures)) c.in_ok-add_arms-in-Case.ensures

pub add_statement-returns-in_ok-add_block-in-Some-otherwise : goal.add_statement-returns-in_ok-add_block-in-Some-otherwise
add_statement-returns-in_ok-add_block-in-Some-otherwise t c =
    adds_two stmt_labels _ _ _ (c.in-Case.is ∙ ap (Case _ _) c.in-Some-otherwise.is) _ _ _ _
    (labels_case _ _ (Some _) ∙ (λ k. in_arms (sym c.as_slice-in-Case.ensures k) ++ in_block (sym c.as_slice-in-Some-otherwise.ensures k)))
    c.in_ok-add_arms-in-Case.ensures c.in_ok-add_block-in-Some-otherwise.ensures
