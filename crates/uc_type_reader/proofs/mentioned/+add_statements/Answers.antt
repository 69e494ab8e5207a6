use Rattle.std.proofs.Common.{List, ◌++◌, ◌∙◌, sym, ap, refl}
use Rattle.std.specs.List.{flat_map}
use Rattle.uc_syntax.specs.declared.type_expression.TypeExpr.{TypeExpr}
use Rattle.uc_syntax.specs.declared.statement.Arm.{Arm}
use Rattle.uc_syntax.specs.declared.statement.Stmt.{Stmt}
use Rattle.uc_syntax.specs.WrittenTypes.{types_in_option}
use Rattle.uc_type_reader.specs.Mentioned.{types_written, types_in_arm, types_in_else}
use Rattle.uc_type_reader.proofs.Gained.{gains_nothing, gains_one, gains_two, on_ok}
use Rattle.uc_type_reader.proofs.Written.{types_local, types_skip, types_block, types_assert, types_assume, types_havoc, types_assign, types_if, types_case, types_for, types_call, types_next}
use Rattle.uc_type_reader.proofs.mentioned.+add_statements.Goals as goal

abbrev in_arms : List (Arm Stmt) → List TypeExpr
in_arms arms = flat_map types_in_arm arms

abbrev in_block : List Stmt → List TypeExpr
in_block block = flat_map types_written block

pub add_statement-returns-in-Local : goal.add_statement-returns-in-Local
add_statement-returns-in-Local t c = on_ok c.add_type.result (gains_one types_written _ _ c.in-Local.is _ _ _ (types_local _ _ _)) c.add_type.ensures

pub add_statement-returns-in-Skip : goal.add_statement-returns-in-Skip
add_statement-returns-in-Skip t c = gains_nothing types_written _ _ c.in-Skip.is _ (types_skip _)

pub add_statement-returns-in-Block : goal.add_statement-returns-in-Block
add_statement-returns-in-Block t c = on_ok c.add_block.result (gains_one types_written _ _ c.in-Block.is _ _ _ (types_block _ _ ∙ ap in_block (sym c.as_slice.ensures))) c.add_block.ensures

pub add_statement-returns-in-Assert : goal.add_statement-returns-in-Assert
add_statement-returns-in-Assert t c = gains_nothing types_written _ _ c.in-Assert.is _ (types_assert _ _ _)

pub add_statement-returns-in-Assume : goal.add_statement-returns-in-Assume
add_statement-returns-in-Assume t c = gains_nothing types_written _ _ c.in-Assume.is _ (types_assume _ _)

pub add_statement-returns-in-Havoc : goal.add_statement-returns-in-Havoc
add_statement-returns-in-Havoc t c = gains_nothing types_written _ _ c.in-Havoc.is _ (types_havoc _ _ _)

pub add_statement-returns-in-Assign : goal.add_statement-returns-in-Assign
add_statement-returns-in-Assign t c = gains_nothing types_written _ _ c.in-Assign.is _ (types_assign _ _ _)

pub add_statement-returns-in-Call : goal.add_statement-returns-in-Call
add_statement-returns-in-Call t c = gains_nothing types_written _ _ c.in-Call.is _ (types_call _ _ _ _)

pub add_statement-returns-in-Next : goal.add_statement-returns-in-Next
add_statement-returns-in-Next t c = gains_nothing types_written _ _ c.in-Next.is _ (types_next _ _)

pub add_statement-returns-in_ok-add_optional_type-in-For : goal.add_statement-returns-in_ok-add_optional_type-in-For
add_statement-returns-in_ok-add_optional_type-in-For t c =
    on_ok c.add_block-in-For.result
    (gains_two types_written _ _ c.in-For.is _ _ _ _ _
    (types_for _ _ _ _ _ _ ∙ (λ k. types_in_option c.in-For.ty ++ in_block (sym c.as_slice-in-For.ensures k)))
    c.in_ok-add_optional_type-in-For.ensures) c.add_block-in-For.ensures

pub add_statement-returns-in_ok-add_arms-in-If : goal.add_statement-returns-in_ok-add_arms-in-If
add_statement-returns-in_ok-add_arms-in-If t c =
    on_ok c.add_otherwise.result
    (gains_two types_written _ _ c.in-If.is _ _ _ _ _
    (types_if _ _ _ ∙ ap (λ arms. in_arms arms ++ types_in_else c.in-If.otherwise) (sym c.as_slice-in-If.ensures))
    c.in_ok-add_arms-in-If.ensures) c.add_otherwise.ensures

pub add_statement-returns-in_ok-add_arms-in-Case : goal.add_statement-returns-in_ok-add_arms-in-Case
add_statement-returns-in_ok-add_arms-in-Case t c =
    on_ok c.add_otherwise-in-Case.result
    (gains_two types_written _ _ c.in-Case.is _ _ _ _ _
    (types_case _ _ _ ∙ ap (λ arms. in_arms arms ++ types_in_else c.in-Case.otherwise) (sym c.as_slice-in-Case.ensures))
    c.in_ok-add_arms-in-Case.ensures) c.add_otherwise-in-Case.ensures

pub add_otherwise-returns-in-None : goal.add_otherwise-returns-in-None
add_otherwise-returns-in-None t c = gains_nothing types_in_else _ _ c.in-None.is _ refl

pub add_otherwise-returns-in-Some : goal.add_otherwise-returns-in-Some
add_otherwise-returns-in-Some t c = on_ok c.add_block.result (gains_one types_in_else _ _ c.in-Some.is _ _ _ (ap in_block (sym c.as_slice.ensures))) c.add_block.ensures
