use Rattle.uc_flat_code.proofs.After.{block_told, havoc_told, assign_told, if_none, if_alone, if_else_none, if_else, case_none, case_alone, case_else_none, case_else, conditions_of, assume_told, statement_none, block_done, arm_none, arm_front, arm_step, arms_done}
use Rattle.uc_flat_code.proofs.once.+after_code.Goals as goal

pub after_arms-returns-in-None : goal.after_arms-returns-in-None
after_arms-returns-in-None t c =
    arm_none c.args.names.now c.args.first c.args.arms.now c.args.before c.loop-arm.found c.loop-arm.arm-index c.arm-item.result c.loop-arm-test.true c.arm-item.is c.loop-arm.invariant.2
    (statement_none c.args.names.now c.args.first c.as_slice-block.result.now c.arm-item.result.body c.loop-statement.now c.args.before c.loop-statement.statement-index c.statement-item.result c.in_ok-more.field-0 c.as_slice-block.ensures c.loop-statement-test.true
    c.statement-item.is c.loop-statement.invariant c.in_ok-more.ensures c.in-None.is)

pub after_arms-loop-arm-preserved : goal.after_arms-loop-arm-preserved
after_arms-loop-arm-preserved t c =
    let done = block_done c.args.names.now c.args.first c.as_slice-block.result.now c.arm-item.result.body c.loop-statement.now c.args.before c.loop-statement.statement-index c.as_slice-block.ensures c.loop-statement-test.false c.loop-statement.invariant in (
      c.loop-arm.invariant.0,
      arm_front c.args.names.now c.args.first c.args.before c.loop-statement.now c.in_ok-front.front c.arm-item.result c.len-start.result c.loop-arm.invariant.0 done c.in_ok-front.ensures.0,
      arm_step c.args.names.now c.args.first c.args.arms.now c.args.before c.loop-statement.now c.in_ok-front.more c.loop-arm.found c.append.new.self c.loop-arm.arm-index c.len-start.result c.arm-item.result c.loop-arm-test.true c.arm-item.is c.loop-arm.invariant.0
          c.loop-arm.invariant.2 done c.in_ok-front.ensures.1 c.in_ok-append.ensures,
    )

pub after_arms-returns : goal.after_arms-returns
after_arms-returns t c = arms_done c.args.names.now c.args.first c.args.arms.now c.args.before c.loop-arm.now c.loop-arm.found c.loop-arm.arm-index c.loop-arm-test.false c.loop-arm.invariant.1 c.loop-arm.invariant.2

pub after_statement-returns-in_default : goal.after_statement-returns-in_default
after_statement-returns-in_default t c =
    if_none c.args.names.now c.args.first c.args.statement.now c.in-If.field-0 c.in-If.arms c.as_slice-in-If-2.result.now c.in-If.otherwise c.args.before c.in_ok-read-in-If.read c.in_ok-now-in-If.field-0 c.in-If.is c.as_slice-in-If-2.ensures (conditions_of c.args.names.now c.args.first c.in-If.arms c.as_slice-in-If.result.now c.args.before c.in_ok-read-in-If.read c.as_slice-in-If.ensures c.in_ok-read-in-If.ensures) c.in_ok-now-in-If.ensures c.in_default.is

pub after_statement-returns-in_default-2 : goal.after_statement-returns-in_default-2
after_statement-returns-in_default-2 t c =
    if_else_none c.args.names.now c.args.first c.args.statement.now c.in-If.field-0 c.in-If.arms c.as_slice-in-If-2.result.now c.in-If.otherwise c.in-Some-otherwise.block c.as_slice-in-Some-otherwise.result.now c.args.before c.in_ok-read-in-If.read c.in-Some.now c.in-Some.found c.in_ok-now-in-If.field-0
    c.in_ok-after-in-Some-otherwise.field-0 c.in-If.is c.as_slice-in-If-2.ensures (conditions_of c.args.names.now c.args.first c.in-If.arms c.as_slice-in-If.result.now c.args.before c.in_ok-read-in-If.read c.as_slice-in-If.ensures c.in_ok-read-in-If.ensures) c.in-Some-otherwise.is c.as_slice-in-Some-otherwise.ensures c.in_ok-now-in-If.ensures c.in-Some.is c.in_ok-after-in-Some-otherwise.ensures c.in_default-2.is

pub after_statement-returns-in_default-3 : goal.after_statement-returns-in_default-3
after_statement-returns-in_default-3 t c =
    case_none c.args.names.now c.args.first c.args.statement.now c.in-Case.field-0 c.in-Case.arms c.as_slice-in-Case-2.result.now c.in-Case.otherwise c.args.before c.in_ok-read-in-Case.read c.in_ok-now-in-Case.field-0 c.in-Case.is c.as_slice-in-Case-2.ensures (conditions_of c.args.names.now c.args.first c.in-Case.arms c.as_slice-in-Case.result.now c.args.before c.in_ok-read-in-Case.read c.as_slice-in-Case.ensures c.in_ok-read-in-Case.ensures) c.in_ok-now-in-Case.ensures c.in_default-3.is

pub after_statement-returns-in_default-4 : goal.after_statement-returns-in_default-4
after_statement-returns-in_default-4 t c =
    case_else_none c.args.names.now c.args.first c.args.statement.now c.in-Case.field-0 c.in-Case.arms c.as_slice-in-Case-2.result.now c.in-Case.otherwise c.in-Some-otherwise-2.block c.as_slice-in-Some-otherwise-2.result.now c.args.before c.in_ok-read-in-Case.read c.in-Some-3.now c.in-Some-3.found
    c.in_ok-now-in-Case.field-0 c.in_ok-after-in-Some-otherwise-2.field-0 c.in-Case.is c.as_slice-in-Case-2.ensures (conditions_of c.args.names.now c.args.first c.in-Case.arms c.as_slice-in-Case.result.now c.args.before c.in_ok-read-in-Case.read c.as_slice-in-Case.ensures c.in_ok-read-in-Case.ensures) c.in-Some-otherwise-2.is c.as_slice-in-Some-otherwise-2.ensures c.in_ok-now-in-Case.ensures c.in-Some-3.is c.in_ok-after-in-Some-otherwise-2.ensures
    c.in_default-4.is

pub after_statement-returns-in-Block : goal.after_statement-returns-in-Block
after_statement-returns-in-Block t c =
    block_told c.args.names.now c.args.first c.args.statement.now c.in-Block.field-0 c.in-Block.block c.as_slice.result.now c.args.before c.after_code.result c.in-Block.is c.as_slice.ensures c.after_code.ensures

pub after_statement-returns-in-Havoc : goal.after_statement-returns-in-Havoc
after_statement-returns-in-Havoc t c =
    havoc_told c.args.names.now c.args.first c.args.statement.now c.in-Havoc.field-0 c.in-Havoc.name c.in-Havoc.field-2 c.args.before c.new.result c.after_name.result c.in-Havoc.is c.new.ensures c.after_name.ensures

pub after_statement-returns-in_ok-read-in-Assign : goal.after_statement-returns-in_ok-read-in-Assign
after_statement-returns-in_ok-read-in-Assign t c =
    assign_told c.args.names.now c.args.first c.args.statement.now c.in-Assign.field-0 c.in-Assign.targets c.as_slice-in-Assign-2.result.now c.in-Assign.sources c.as_slice-in-Assign.result.now c.args.before c.in_ok-read-in-Assign.read c.after_targets.result c.in-Assign.is
    c.as_slice-in-Assign-2.ensures c.as_slice-in-Assign.ensures c.in_ok-read-in-Assign.ensures c.after_targets.ensures

pub after_statement-returns-in-None : goal.after_statement-returns-in-None
after_statement-returns-in-None t c =
    if_alone c.args.names.now c.args.first c.args.statement.now c.in-If.field-0 c.in-If.arms c.as_slice-in-If-2.result.now c.in-If.otherwise c.args.before c.in_ok-read-in-If.read c.in-Some.now c.in-Some.found c.len-start.result c.in_ok-now-in-If.field-0 c.joined.result c.in-If.is
    c.as_slice-in-If-2.ensures (conditions_of c.args.names.now c.args.first c.in-If.arms c.as_slice-in-If.result.now c.args.before c.in_ok-read-in-If.read c.as_slice-in-If.ensures c.in_ok-read-in-If.ensures) c.in-None.is c.len-start.ensures c.in_ok-now-in-If.ensures c.in-Some.is c.joined.ensures

pub after_statement-returns-in-Some-2 : goal.after_statement-returns-in-Some-2
after_statement-returns-in-Some-2 t c =
    if_else c.args.names.now c.args.first c.args.statement.now c.in-If.field-0 c.in-If.arms c.as_slice-in-If-2.result.now c.in-If.otherwise c.in-Some-otherwise.block c.as_slice-in-Some-otherwise.result.now c.args.before c.in_ok-read-in-If.read c.in-Some.now c.in-Some.found c.in-Some-2.after c.len-start.result
    c.in_ok-now-in-If.field-0 c.in_ok-after-in-Some-otherwise.field-0 c.joined-in-Some-otherwise.result c.in-If.is c.as_slice-in-If-2.ensures (conditions_of c.args.names.now c.args.first c.in-If.arms c.as_slice-in-If.result.now c.args.before c.in_ok-read-in-If.read c.as_slice-in-If.ensures c.in_ok-read-in-If.ensures) c.in-Some-otherwise.is c.as_slice-in-Some-otherwise.ensures c.len-start.ensures c.in_ok-now-in-If.ensures c.in-Some.is
    c.in_ok-after-in-Some-otherwise.ensures c.in-Some-2.is c.joined-in-Some-otherwise.ensures

pub after_statement-returns-in-None-otherwise : goal.after_statement-returns-in-None-otherwise
after_statement-returns-in-None-otherwise t c =
    case_alone c.args.names.now c.args.first c.args.statement.now c.in-Case.field-0 c.in-Case.arms c.as_slice-in-Case-2.result.now c.in-Case.otherwise c.args.before c.in_ok-read-in-Case.read c.in-Some-3.now c.in-Some-3.found c.len-start-in-Case.result c.in_ok-now-in-Case.field-0 c.joined-in-None-otherwise.result
    c.in-Case.is c.as_slice-in-Case-2.ensures (conditions_of c.args.names.now c.args.first c.in-Case.arms c.as_slice-in-Case.result.now c.args.before c.in_ok-read-in-Case.read c.as_slice-in-Case.ensures c.in_ok-read-in-Case.ensures) c.in-None-otherwise.is c.len-start-in-Case.ensures c.in_ok-now-in-Case.ensures c.in-Some-3.is c.joined-in-None-otherwise.ensures

pub after_statement-returns-in-Some-4 : goal.after_statement-returns-in-Some-4
after_statement-returns-in-Some-4 t c =
    case_else c.args.names.now c.args.first c.args.statement.now c.in-Case.field-0 c.in-Case.arms c.as_slice-in-Case-2.result.now c.in-Case.otherwise c.in-Some-otherwise-2.block c.as_slice-in-Some-otherwise-2.result.now c.args.before c.in_ok-read-in-Case.read c.in-Some-3.now c.in-Some-3.found c.in-Some-4.after
    c.len-start-in-Case.result c.in_ok-now-in-Case.field-0 c.in_ok-after-in-Some-otherwise-2.field-0 c.joined-in-Some-otherwise-2.result c.in-Case.is c.as_slice-in-Case-2.ensures (conditions_of c.args.names.now c.args.first c.in-Case.arms c.as_slice-in-Case.result.now c.args.before c.in_ok-read-in-Case.read c.as_slice-in-Case.ensures c.in_ok-read-in-Case.ensures) c.in-Some-otherwise-2.is c.as_slice-in-Some-otherwise-2.ensures c.len-start-in-Case.ensures
    c.in_ok-now-in-Case.ensures c.in-Some-3.is c.in_ok-after-in-Some-otherwise-2.ensures c.in-Some-4.is c.joined-in-Some-otherwise-2.ensures

pub after_statement-returns-in_ok-read-in-Assume : goal.after_statement-returns-in_ok-read-in-Assume
after_statement-returns-in_ok-read-in-Assume t c =
    assume_told c.args.names.now c.args.first c.args.statement.now c.in-Assume.field-0 c.in-Assume.e c.args.before c.in_ok-read-in-Assume.read c.in-Assume.is c.in_ok-read-in-Assume.ensures
