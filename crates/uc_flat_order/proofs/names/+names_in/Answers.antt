use Rattle.std.proofs.Common.{◌∙◌}
use Rattle.uc_flat_order.proofs.Forms.{block_names, assign_names, if_names, case_names, havoc_names, local_names, skip_names, assert_names, assume_names, for_names, call_names, next_names}
use Rattle.uc_flat_order.proofs.names.+names_in.Goals as goal

pub names_written-returns-in-Block : goal.names_written-returns-in-Block
names_written-returns-in-Block t c = block_names c.args.statement.now c.names_in.result c.in-Block.field-0 c.in-Block.block c.as_slice.result.now c.in-Block.is c.as_slice.ensures c.names_in.ensures

pub names_written-returns-in_ok-first-in-If : goal.names_written-returns-in_ok-first-in-If
names_written-returns-in_ok-first-in-If t c =
    if_names c.args.statement.now c.joined.result c.in-If.field-0 c.in-If.arms c.as_slice-in-If.result.now c.in-If.otherwise c.in_ok-first-in-If.first c.in_ok-last-in-If.last c.in-If.is c.as_slice-in-If.ensures c.in_ok-last-in-If.ensures
    c.in_ok-first-in-If.ensures c.joined.ensures

pub names_written-returns-in_ok-first-in-Case : goal.names_written-returns-in_ok-first-in-Case
names_written-returns-in_ok-first-in-Case t c =
    case_names c.args.statement.now c.joined-in-Case.result c.in-Case.field-0 c.in-Case.arms c.as_slice-in-Case.result.now c.in-Case.otherwise c.in_ok-first-in-Case.first c.in_ok-last-in-Case.last c.in-Case.is c.as_slice-in-Case.ensures c.in_ok-last-in-Case.ensures
    c.in_ok-first-in-Case.ensures c.joined-in-Case.ensures

pub names_written-returns-in-Assign : goal.names_written-returns-in-Assign
names_written-returns-in-Assign t c = assign_names c.args.statement.now c.target_names.result c.in-Assign.field-0 c.in-Assign.targets c.as_slice-in-Assign.result.now c.in-Assign.field-2 c.in-Assign.is c.as_slice-in-Assign.ensures c.target_names.ensures

pub names_written-returns-in-Havoc : goal.names_written-returns-in-Havoc
names_written-returns-in-Havoc t c = havoc_names c.args.statement.now c.one.result c.in-Havoc.field-0 c.in-Havoc.name c.in-Havoc.field-2 c.in-Havoc.is c.one.ensures

pub names_written-returns-in-Local : goal.names_written-returns-in-Local
names_written-returns-in-Local t c = c.new.ensures ∙ local_names c.args.statement.now c.in-Local.field-0 c.in-Local.field-1 c.in-Local.field-2 c.in-Local.is

pub names_written-returns-in-Skip : goal.names_written-returns-in-Skip
names_written-returns-in-Skip t c = c.new-in-Skip.ensures ∙ skip_names c.args.statement.now c.in-Skip.field-0 c.in-Skip.is

pub names_written-returns-in-Assert : goal.names_written-returns-in-Assert
names_written-returns-in-Assert t c = c.new-in-Assert.ensures ∙ assert_names c.args.statement.now c.in-Assert.field-0 c.in-Assert.field-1 c.in-Assert.field-2 c.in-Assert.is

pub names_written-returns-in-Assume : goal.names_written-returns-in-Assume
names_written-returns-in-Assume t c = c.new-in-Assume.ensures ∙ assume_names c.args.statement.now c.in-Assume.field-0 c.in-Assume.field-1 c.in-Assume.is

pub names_written-returns-in-For : goal.names_written-returns-in-For
names_written-returns-in-For t c = c.new-in-For.ensures ∙ for_names c.args.statement.now c.in-For.field-0 c.in-For.field-1 c.in-For.field-2 c.in-For.field-3 c.in-For.field-4 c.in-For.field-5 c.in-For.is

pub names_written-returns-in-Call : goal.names_written-returns-in-Call
names_written-returns-in-Call t c = c.new-in-Call.ensures ∙ call_names c.args.statement.now c.in-Call.field-0 c.in-Call.field-1 c.in-Call.field-2 c.in-Call.field-3 c.in-Call.is

pub names_written-returns-in-Next : goal.names_written-returns-in-Next
names_written-returns-in-Next t c = c.new-in-Next.ensures ∙ next_names c.args.statement.now c.in-Next.field-0 c.in-Next.field-1 c.in-Next.is
