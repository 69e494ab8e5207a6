use Rattle.std.proofs.Common.{List, None, Some, ◌∷◌, [], ◌++◌, ◌∙◌, sym, ap}
use Rattle.std.specs.List.{flat_map}
use Rattle.uc_syntax.specs.declared.type_expression.TypeExpr.{TypeExpr}
use Rattle.uc_syntax.specs.declared.statement.Arm.{Arm}
use Rattle.uc_syntax.specs.declared.statement.Stmt.{Stmt}
use Rattle.uc_syntax.specs.declared.statement.Stmt.TheViews.{If, Case, For}
use Rattle.uc_syntax.proofs.Added.{adds_nothing, adds_one, adds_two}
use Rattle.uc_type_names.specs.Lent.{types_by, types_in_arm}
use Rattle.uc_type_names.proofs.Forms.{types_local, types_skip, types_block, types_assert, types_assume, types_havoc, types_assign, types_if, types_if_alone, types_case, types_case_alone, types_for, types_for_alone, types_call, types_next}
use Rattle.uc_type_names.proofs.written.+add_statements.Goals as goal

abbrev in_arms : List (Arm Stmt) → List TypeExpr
in_arms arms = flat_map types_in_arm arms

abbrev in_block : List Stmt → List TypeExpr
in_block block = flat_map types_by block

pub add_statement-returns-in_ok-push-in-Local : goal.add_statement-returns-in_ok-push-in-Local
add_statement-returns-in_ok-push-in-Local t c = adds_one types_by _ _ _ c.in-Local.is _ _ (types_local _ _ _) c.in_ok-push-in-Local.ensures

pub add_statement-returns-in-Skip : goal.add_statement-returns-in-Skip
add_statement-returns-in-Skip t c = adds_nothing types_by _ _ _ c.in-Skip.is (types_skip _)

pub add_statement-returns-in_ok-add_block-in-Block : goal.add_statement-returns-in_ok-add_block-in-Block
add_statement-returns-in_ok-add_block-in-Block t c =
    adds_one types_by _ _ _ c.in-Block.is _ _ (types_block _ _ ∙ ap in_block (sym c.as_slice.ensures)) c.in_ok-add_block-in-Block.ensures

pub add_statement-returns-in-Assert : goal.add_statement-returns-in-Assert
add_statement-returns-in-Assert t c = adds_nothing types_by _ _ _ c.in-Assert.is (types_assert _ _ _)

pub add_statement-returns-in-Assume : goal.add_statement-returns-in-Assume
add_statement-returns-in-Assume t c = adds_nothing types_by _ _ _ c.in-Assume.is (types_assume _ _)

pub add_statement-returns-in-Havoc : goal.add_statement-returns-in-Havoc
add_statement-returns-in-Havoc t c = adds_nothing types_by _ _ _ c.in-Havoc.is (types_havoc _ _ _)

pub add_statement-returns-in-Assign : goal.add_statement-returns-in-Assign
add_statement-returns-in-Assign t c = adds_nothing types_by _ _ _ c.in-Assign.is (types_assign _ _ _)

pub add_statement-returns-in-Call : goal.add_statement-returns-in-Call
add_statement-returns-in-Call t c = adds_nothing types_by _ _ _ c.in-Call.is (types_call _ _ _ _)

pub add_statement-returns-in-Next : goal.add_statement-returns-in-Next
add_statement-returns-in-Next t c = adds_nothing types_by _ _ _ c.in-Next.is (types_next _ _)

pub add_statement-returns-in-None : goal.add_statement-returns-in-None
add_statement-returns-in-None t c =
    adds_one types_by _ _ _ (c.in-If.is ∙ ap (If _ _) c.in-None.is) _ _
    (types_if_alone _ _ ∙ ap in_arms (sym c.as_slice-in-If.ensures)) c.in_ok-add_arms-in-If.ensures

pub add_statement-returns-in_ok-add_block-in-Some : goal.add_statement-returns-in_ok-add_block-in-Some
add_statement-returns-in_ok-add_block-in-Some t c =
    adds_two types_by _ _ _ (c.in-If.is ∙ ap (If _ _) c.in-Some.is) _ _ _ _
    (types_if _ _ _ ∙ (λ k. in_arms (sym c.as_slice-in-If.ensures k) ++ in_block (sym c.as_slice-in-Some.ensures k)))
    c.in_ok-add_arms-in-If.ensures c.in_ok-add_block-in-Some.ensures

pub add_statement-returns-in-None-otherwise : goal.add_statement-returns-in-None-otherwise
add_statement-returns-in-None-otherwise t c =
    adds_one types_by _ _ _ (c.in-Case.is ∙ ap (Case _ _) c.in-None-otherwise.is) _ _
    (types_case_alone _ _ ∙ ap in_arms (sym c.as_slice-in-Case.ensures)) c.in_ok-add_arms-in-Case.ensures

pub add_statement-returns-in_ok-add_block-in-Some-otherwise : goal.add_statement-returns-in_ok-add_block-in-Some-otherwise
add_statement-returns-in_ok-add_block-in-Some-otherwise t c =
    adds_two types_by _ _ _ (c.in-Case.is ∙ ap (Case _ _) c.in-Some-otherwise.is) _ _ _ _
    (types_case _ _ _ ∙ (λ k. in_arms (sym c.as_slice-in-Case.ensures k) ++ in_block (sym c.as_slice-in-Some-otherwise.ensures k)))
    c.in_ok-add_arms-in-Case.ensures c.in_ok-add_block-in-Some-otherwise.ensures

pub add_statement-returns-in_ok-add_block-in-None-ty : goal.add_statement-returns-in_ok-add_block-in-None-ty
add_statement-returns-in_ok-add_block-in-None-ty t c =
    adds_one types_by _ _ _ (c.in-For.is ∙ ap (λ o. For c.in-For.field-0 c.in-For.field-1 o c.in-For.field-3 c.in-For.field-4 c.in-For.body) c.in-None-ty.is) _ _
    (types_for_alone _ _ _ _ _ ∙ ap in_block (sym c.as_slice-in-None-ty.ensures)) c.in_ok-add_block-in-None-ty.ensures

pub add_statement-returns-in_ok-add_block-in-Some-ty : goal.add_statement-returns-in_ok-add_block-in-Some-ty
add_statement-returns-in_ok-add_block-in-Some-ty t c =
    adds_two types_by _ _ _ (c.in-For.is ∙ ap (λ o. For c.in-For.field-0 c.in-For.field-1 o c.in-For.field-3 c.in-For.field-4 c.in-For.body) c.in-Some-ty.is) _ _ _ _
    (types_for _ _ _ _ _ _ ∙ (λ k. (c.in-Some-ty.ty ∷ []) ++ in_block (sym c.as_slice-in-Some-ty.ensures k)))
    c.in_ok-push-in-Some-ty.ensures c.in_ok-add_block-in-Some-ty.ensures
