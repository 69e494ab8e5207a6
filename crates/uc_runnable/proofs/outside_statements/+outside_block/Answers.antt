use Rattle.uc_runnable.proofs.StatementForms.{outside_assert, outside_assign, outside_assume, outside_call, outside_case, outside_for, outside_havoc, outside_if, outside_local, outside_next, outside_of_block, outside_skip}
use Rattle.uc_runnable.proofs.outside_statements.+outside_block.Goals as goal

pub outside_statement-returns-in-Skip : goal.outside_statement-returns-in-Skip
outside_statement-returns-in-Skip t c = outside_skip _ _ c.in-Skip.is

pub outside_statement-returns-in-Assert : goal.outside_statement-returns-in-Assert
outside_statement-returns-in-Assert t c = outside_assert _ _ _ _ c.in-Assert.is

pub outside_statement-returns-in-Havoc : goal.outside_statement-returns-in-Havoc
outside_statement-returns-in-Havoc t c = outside_havoc _ _ _ _ c.in-Havoc.is

pub outside_statement-returns-in-For : goal.outside_statement-returns-in-For
outside_statement-returns-in-For t c = outside_for _ _ _ _ _ _ _ c.in-For.is

pub outside_statement-returns-in-Next : goal.outside_statement-returns-in-Next
outside_statement-returns-in-Next t c = outside_next _ _ _ c.in-Next.is

pub outside_statement-returns-in-Local : goal.outside_statement-returns-in-Local
outside_statement-returns-in-Local t c = outside_local _ _ _ _ _ c.in-Local.is c.outside_type.ensures

pub outside_statement-returns-in-Block : goal.outside_statement-returns-in-Block
outside_statement-returns-in-Block t c = outside_of_block _ _ _ _ _ c.in-Block.is c.as_slice.ensures c.outside_block.ensures

pub outside_statement-returns-in-Assume : goal.outside_statement-returns-in-Assume
outside_statement-returns-in-Assume t c = outside_assume _ _ _ _ c.in-Assume.is c.number_in.ensures

pub outside_statement-returns-in-Assign : goal.outside_statement-returns-in-Assign
outside_statement-returns-in-Assign t c =
    outside_assign _ _ _ _ _ _ _ _ _ c.in-Assign.is c.or.ensures c.as_slice-in-Assign.ensures c.number_in_targets.ensures c.as_slice-in-Assign-2.ensures c.number_in_all.ensures

pub outside_statement-returns-in-If : goal.outside_statement-returns-in-If
outside_statement-returns-in-If t c = outside_if _ _ _ _ _ _ _ _ c.in-If.is c.or-in-If.ensures c.as_slice-in-If.ensures c.outside_arms.ensures c.outside_else.ensures

pub outside_statement-returns-in-Case : goal.outside_statement-returns-in-Case
outside_statement-returns-in-Case t c = outside_case _ _ _ _ _ _ _ _ c.in-Case.is c.or-in-Case.ensures c.as_slice-in-Case.ensures c.outside_arms-in-Case.ensures c.outside_else-in-Case.ensures

pub outside_statement-returns-in-Call : goal.outside_statement-returns-in-Call
outside_statement-returns-in-Call t c =
    outside_call _ _ _ _ _ _ _ _ _ _ c.in-Call.is c.or-in-Call.ensures c.as_slice-in-Call.ensures c.number_in_targets-in-Call.ensures c.as_slice-in-Call-2.ensures c.number_in_all-in-Call.ensures
