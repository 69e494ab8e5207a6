use Rattle.std.proofs.Common.{[], refl, ap, ◌∙◌, sym}
use Rattle.uc_statement_rules.proofs.Blocks.{block_begin, block_end, block_more}
use Rattle.uc_statement_rules.proofs.Forms.{found_assert, found_assume, found_havoc, found_next, found_skip}
use Rattle.uc_statement_rules.proofs.Joined.{arms_begin, arms_end, arms_more, assign_found, block_found, call_found, case_found, else_none, else_some, for_of_parts, if_found, local_found, stays_found}
use Rattle.uc_statement_rules.proofs.Noted.{noted_none, on_ok}
use Rattle.uc_statement_rules.proofs.walk.+judge_statement.Goals as goal

pub judge_block-loop-statement-init : goal.judge_block-loop-statement-init
judge_block-loop-statement-init t c = block_begin c.args.scope.now c.args.block.now c.args.first.now

pub judge_block-loop-statement-preserved : goal.judge_block-loop-statement-preserved
judge_block-loop-statement-preserved t c =
    block_more c.args.scope.now c.args.block.now c.args.first.now c.loop-statement.statement-index c.loop-statement.scope c.judge_statement.new.scope c.loop-statement.first c.judge_statement.new.first c.statement-item.result c.statement-item.result
    c.loop-statement.invariant c.loop-statement-test.true c.statement-item.is c.in_ok-judge_statement.ensures

pub judge_block-returns : goal.judge_block-returns
judge_block-returns t c =
    block_end c.args.scope.now c.args.block.now c.args.first.now c.loop-statement.statement-index c.loop-statement.scope c.leave.new.self c.loop-statement.first c.depth-depth.result
    c.loop-statement.invariant c.loop-statement-test.false c.depth-depth.ensures c.leave.ensures

pub judge_arms-loop-arm-init : goal.judge_arms-loop-arm-init
judge_arms-loop-arm-init t c = arms_begin c.args.scope.now c.args.first.now

pub judge_arms-loop-arm-preserved : goal.judge_arms-loop-arm-preserved
judge_arms-loop-arm-preserved t c =
    arms_more c.args.scope.now c.args.arms.now c.loop-arm.arm-index c.arm-item.result c.arm-item.result c.args.first.now c.loop-arm.first c.note_condition.new.first c.judge_block.new.first c.loop-arm.scope c.judge_block.new.scope c.as_slice.result.now
    c.loop-arm.invariant c.loop-arm-test.true c.arm-item.is c.in_ok-note_condition.ensures c.as_slice.ensures c.in_ok-judge_block.ensures

pub judge_arms-returns : goal.judge_arms-returns
judge_arms-returns t c = arms_end c.args.scope.now c.args.arms.now c.loop-arm.arm-index c.args.first.now c.loop-arm.first c.loop-arm.scope c.loop-arm.invariant c.loop-arm-test.false

pub judge_otherwise-returns-in-None : goal.judge_otherwise-returns-in-None
judge_otherwise-returns-in-None t c = else_none c.args.scope.now c.args.otherwise.now c.args.first.now c.in-None.is

pub judge_otherwise-returns-in-Some : goal.judge_otherwise-returns-in-Some
judge_otherwise-returns-in-Some t c =
    on_ok c.judge_block.result
    (else_some c.args.scope.now c.judge_block.new.scope c.args.otherwise.now c.in-Some.block c.as_slice.result.now c.args.first.now c.judge_block.new.first c.in-Some.is c.as_slice.ensures) c.judge_block.ensures

pub judge_statement-returns-in-Local : goal.judge_statement-returns-in-Local
judge_statement-returns-in-Local t c =
    on_ok c.judge_local.result
    (local_found c.args.scope.now c.judge_local.new.scope c.args.statement.now c.in-Local.place c.in-Local.names c.as_slice.result.now c.in-Local.ty c.args.first.now c.judge_local.new.first c.in-Local.is c.as_slice.ensures) c.judge_local.ensures

pub judge_statement-returns-in-Skip : goal.judge_statement-returns-in-Skip
judge_statement-returns-in-Skip t c = stays_found c.args.scope.now c.args.statement.now _ _ c.args.first.now c.args.first.now c.args.scope.now c.in-Skip.is (found_skip c.args.scope.now c.in-Skip.field-0) refl (noted_none c.args.first.now)

pub judge_statement-returns-in-Block : goal.judge_statement-returns-in-Block
judge_statement-returns-in-Block t c =
    on_ok c.judge_block.result
    (block_found c.args.scope.now c.judge_block.new.scope c.args.statement.now c.in-Block.field-0 c.in-Block.block c.as_slice-in-Block.result.now c.args.first.now c.judge_block.new.first c.in-Block.is c.as_slice-in-Block.ensures) c.judge_block.ensures

pub judge_statement-returns-in-Assert : goal.judge_statement-returns-in-Assert
judge_statement-returns-in-Assert t c =
    on_ok c.note_condition.result
    (stays_found c.args.scope.now c.args.statement.now _ _ c.args.first.now c.note_condition.new.first c.args.scope.now c.in-Assert.is (found_assert c.args.scope.now c.in-Assert.field-0 c.in-Assert.field-1 c.in-Assert.condition) refl) c.note_condition.ensures

pub judge_statement-returns-in-Assume : goal.judge_statement-returns-in-Assume
judge_statement-returns-in-Assume t c =
    on_ok c.note_condition-in-Assume.result
    (stays_found c.args.scope.now c.args.statement.now _ _ c.args.first.now c.note_condition-in-Assume.new.first c.args.scope.now c.in-Assume.is (found_assume c.args.scope.now c.in-Assume.field-0 c.in-Assume.condition) refl) c.note_condition-in-Assume.ensures

pub judge_statement-returns-in-Havoc : goal.judge_statement-returns-in-Havoc
judge_statement-returns-in-Havoc t c =
    on_ok c.judge_havoc.result
    (stays_found c.args.scope.now c.args.statement.now _ _ c.args.first.now c.judge_havoc.new.first c.args.scope.now c.in-Havoc.is (found_havoc c.args.scope.now c.in-Havoc.field-0 c.in-Havoc.name c.in-Havoc.is_primed) refl) c.judge_havoc.ensures

pub judge_statement-returns-in-Assign : goal.judge_statement-returns-in-Assign
judge_statement-returns-in-Assign t c =
    on_ok c.judge_assignment.result
    (assign_found c.args.scope.now c.args.statement.now c.in-Assign.place c.in-Assign.targets c.as_slice-targets.result.now c.in-Assign.sources c.as_slice-in-Assign.result.now c.args.first.now c.judge_assignment.new.first
    c.in-Assign.is c.as_slice-targets.ensures c.as_slice-in-Assign.ensures) c.judge_assignment.ensures

pub judge_statement-returns-in_ok-judge_arms-in-If : goal.judge_statement-returns-in_ok-judge_arms-in-If
judge_statement-returns-in_ok-judge_arms-in-If t c =
    on_ok c.judge_otherwise.result
    (if_found c.args.scope.now c.judge_arms.new.scope c.judge_otherwise.new.scope c.args.statement.now c.in-If.field-0 c.in-If.arms c.as_slice-in-If.result.now c.in-If.otherwise c.args.first.now c.judge_arms.new.first c.judge_otherwise.new.first
    c.in-If.is c.as_slice-in-If.ensures c.in_ok-judge_arms-in-If.ensures) c.judge_otherwise.ensures

pub judge_statement-returns-in_ok-judge_arms-in-Case : goal.judge_statement-returns-in_ok-judge_arms-in-Case
judge_statement-returns-in_ok-judge_arms-in-Case t c =
    on_ok c.judge_otherwise-in-Case.result
    (case_found c.args.scope.now c.judge_arms-in-Case.new.scope c.judge_otherwise-in-Case.new.scope c.args.statement.now c.in-Case.field-0 c.in-Case.arms c.as_slice-in-Case.result.now c.in-Case.otherwise c.args.first.now c.judge_arms-in-Case.new.first c.judge_otherwise-in-Case.new.first
    c.in-Case.is c.as_slice-in-Case.ensures c.in_ok-judge_arms-in-Case.ensures) c.judge_otherwise-in-Case.ensures

pub judge_statement-returns-in_ok-judge_block-in-For : goal.judge_statement-returns-in_ok-judge_block-in-For
judge_statement-returns-in_ok-judge_block-in-For t c =
    for_of_parts c.args.scope.now c.enter_loop.new.scope c.judge_block-in-For.new.scope c.leave.new.self c.args.statement.now c.in-For.place c.in-For.variable c.in-For.written c.in-For.from c.in-For.to c.in-For.body c.as_slice-in-For.result.now
    c.args.first.now c.enter_loop.new.first c.judge_block-in-For.new.first c.depth-depth.result
    c.in-For.is c.depth-depth.ensures c.in_ok-enter_loop-in-For.ensures c.as_slice-in-For.ensures c.in_ok-judge_block-in-For.ensures c.leave.ensures

pub judge_statement-returns-in-Call : goal.judge_statement-returns-in-Call
judge_statement-returns-in-Call t c =
    on_ok c.judge_call.result
    (call_found c.args.scope.now c.args.statement.now c.in-Call.place c.in-Call.targets c.as_slice-targets-in-Call.result.now c.in-Call.procedure c.in-Call.arguments c.as_slice-arguments.result.now c.args.first.now c.judge_call.new.first
    c.in-Call.is c.as_slice-targets-in-Call.ensures c.as_slice-arguments.ensures) c.judge_call.ensures

pub judge_statement-returns-in-Next : goal.judge_statement-returns-in-Next
judge_statement-returns-in-Next t c =
    stays_found c.args.scope.now c.args.statement.now _ _ c.args.first.now c.judge_step.new.first c.args.scope.now c.in-Next.is (found_next c.args.scope.now c.in-Next.place c.in-Next.instance) refl c.judge_step.ensures
