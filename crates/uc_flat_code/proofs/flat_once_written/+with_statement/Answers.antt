use Rattle.uc_flat_code.proofs.Adding.{block_adds, havoc_adds, assign_adds, if_adds, case_adds}
use Rattle.uc_flat_code.proofs.flat_once_written.+with_statement.Goals as goal

pub with_statement-returns-in-Block : goal.with_statement-returns-in-Block
with_statement-returns-in-Block t c = block_adds c.args.names.now c.args.statement.now c.in-Block.field-0 c.in-Block.block c.as_slice.result.now c.args.before c.with_code.result c.in-Block.is c.as_slice.ensures c.with_code.ensures

pub with_statement-returns-in-Havoc : goal.with_statement-returns-in-Havoc
with_statement-returns-in-Havoc t c =
    havoc_adds c.args.names.now c.args.statement.now c.in-Havoc.field-0 c.in-Havoc.name c.in-Havoc.field-2 c.args.before c.new.result c.with_name.result c.in-Havoc.is c.new.ensures c.with_name.ensures

pub with_statement-returns-in-Assign : goal.with_statement-returns-in-Assign
with_statement-returns-in-Assign t c =
    assign_adds c.args.names.now c.args.statement.now c.in-Assign.field-0 c.in-Assign.targets c.as_slice-in-Assign.result.now c.in-Assign.field-2 c.args.before c.with_targets.result c.in-Assign.is c.as_slice-in-Assign.ensures c.with_targets.ensures

pub with_statement-returns-in_ok-found-in-If : goal.with_statement-returns-in_ok-found-in-If
with_statement-returns-in_ok-found-in-If t c =
    if_adds c.args.names.now c.args.statement.now c.in-If.field-0 c.in-If.arms c.as_slice-in-If.result.now c.in-If.otherwise c.args.before c.in_ok-found-in-If.found c.with_else.result c.in-If.is c.as_slice-in-If.ensures c.in_ok-found-in-If.ensures c.with_else.ensures

pub with_statement-returns-in_ok-found-in-Case : goal.with_statement-returns-in_ok-found-in-Case
with_statement-returns-in_ok-found-in-Case t c =
    case_adds c.args.names.now c.args.statement.now c.in-Case.field-0 c.in-Case.arms c.as_slice-in-Case.result.now c.in-Case.otherwise c.args.before c.in_ok-found-in-Case.found c.with_else-in-Case.result c.in-Case.is c.as_slice-in-Case.ensures c.in_ok-found-in-Case.ensures c.with_else-in-Case.ensures
