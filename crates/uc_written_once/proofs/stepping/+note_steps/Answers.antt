use Rattle.uc_written_once.proofs.SteppedOnceForms.{block_seen, block_faults, choice_alone_seen, choice_alone_faults, choice_else_seen, choice_else_faults, cases_alone_seen, cases_alone_faults, cases_else_seen, cases_else_faults, no_turns_seen, no_turns_faults, turned_seen, turned_faults, step_seen, step_faults}
use Rattle.uc_written_once.proofs.SteppedOnceTurns.{arms_begin, arms_end_aside, arms_end_faults, arms_end_seen, arms_more, block_begin, block_end_faults, block_end_seen, block_more}
use Rattle.uc_written_once.proofs.stepping.+note_steps.Goals as goal

pub note_in_arms-loop-arm-init : goal.note_in_arms-loop-arm-init
note_in_arms-loop-arm-init t c = arms_begin _ _ _ _ _

pub note_in_arms-loop-statement-init : goal.note_in_arms-loop-statement-init
note_in_arms-loop-statement-init t c = block_begin _ _ _ _

pub note_in_arms-loop-statement-preserved : goal.note_in_arms-loop-statement-preserved
note_in_arms-loop-statement-preserved t c =
    block_more _ _ _ _ _ _ _ _ _ c.statement-item.result _ c.loop-statement.invariant c.loop-statement-test.true c.statement-item.is c.in_ok-note_in_statement.ensures.seen c.in_ok-note_in_statement.ensures.faults

pub note_in_arms-loop-arm-preserved : goal.note_in_arms-loop-arm-preserved
note_in_arms-loop-arm-preserved t c =
    arms_more _ _ _ _ _ _ _ _ c.loop-statement.seen _ _ _ _ c.len-start.result c.arm-item.result _ c.as_slice-block.result.now c.loop-arm.invariant c.loop-arm-test.true c.arm-item.is c.len-start.ensures c.as_slice-block.ensures
    (block_end_seen _ _ _ _ _ _ _ c.loop-statement.invariant c.loop-statement-test.false) (block_end_faults _ _ _ _ _ _ _ c.loop-statement.invariant c.loop-statement-test.false)
    c.in_ok-put_aside.ensures.kept c.in_ok-put_aside.ensures.aside

pub note_in_arms-returns-clause-seen : goal.note_in_arms-returns-clause-seen
note_in_arms-returns-clause-seen t c = arms_end_seen _ _ _ _ _ _ _ _ _ c.loop-arm.invariant c.loop-arm-test.false

pub note_in_arms-returns-clause-aside : goal.note_in_arms-returns-clause-aside
note_in_arms-returns-clause-aside t c = arms_end_aside _ _ _ _ _ _ _ _ _ c.loop-arm.invariant c.loop-arm-test.false

pub note_in_arms-returns-clause-faults : goal.note_in_arms-returns-clause-faults
note_in_arms-returns-clause-faults t c = arms_end_faults _ _ _ _ _ _ _ _ _ c.loop-arm.invariant c.loop-arm-test.false

pub note_in_block-loop-statement-init : goal.note_in_block-loop-statement-init
note_in_block-loop-statement-init t c = block_begin _ _ _ _

pub note_in_block-loop-statement-preserved : goal.note_in_block-loop-statement-preserved
note_in_block-loop-statement-preserved t c =
    block_more _ _ _ _ _ _ _ _ _ c.statement-item.result _ c.loop-statement.invariant c.loop-statement-test.true c.statement-item.is c.in_ok-note_in_statement.ensures.seen c.in_ok-note_in_statement.ensures.faults

pub note_in_block-returns-clause-seen : goal.note_in_block-returns-clause-seen
note_in_block-returns-clause-seen t c = block_end_seen _ _ _ _ _ _ _ c.loop-statement.invariant c.loop-statement-test.false

pub note_in_block-returns-clause-faults : goal.note_in_block-returns-clause-faults
note_in_block-returns-clause-faults t c = block_end_faults _ _ _ _ _ _ _ c.loop-statement.invariant c.loop-statement-test.false

pub note_in_statement-returns-in_ok-note_in_block-in-Block-clause-seen : goal.note_in_statement-returns-in_ok-note_in_block-in-Block-clause-seen
note_in_statement-returns-in_ok-note_in_block-in-Block-clause-seen t c = block_seen _ _ _ _ _ _ _ c.in-Block.is c.as_slice.ensures c.in_ok-note_in_block-in-Block.ensures.seen

pub note_in_statement-returns-in_ok-note_in_block-in-Block-clause-faults : goal.note_in_statement-returns-in_ok-note_in_block-in-Block-clause-faults
note_in_statement-returns-in_ok-note_in_block-in-Block-clause-faults t c = block_faults _ _ _ _ _ _ _ _ c.in-Block.is c.as_slice.ensures c.in_ok-note_in_block-in-Block.ensures.faults

pub note_in_statement-returns-in_ok-insert_all-in-None-clause-seen : goal.note_in_statement-returns-in_ok-insert_all-in-None-clause-seen
note_in_statement-returns-in_ok-insert_all-in-None-clause-seen t c =
    choice_alone_seen _ _ _ _ _ _ _ _ _ _ _ _ c.in-If.is c.in-None.is c.as_slice-in-If.ensures c.new-aside.ensures c.in_ok-note_in_arms-in-If.ensures.seen c.in_ok-note_in_arms-in-If.ensures.aside c.as_slice-in-None.ensures
    c.in_ok-insert_all-in-None.ensures

pub note_in_statement-returns-in_ok-insert_all-in-None-clause-faults : goal.note_in_statement-returns-in_ok-insert_all-in-None-clause-faults
note_in_statement-returns-in_ok-insert_all-in-None-clause-faults t c =
    choice_alone_faults _ _ _ _ _ _ _ _ _ _ c.in-If.is c.in-None.is c.as_slice-in-If.ensures c.new-aside.ensures c.in_ok-note_in_arms-in-If.ensures.faults

pub note_in_statement-returns-in_ok-join-in-Some-clause-seen : goal.note_in_statement-returns-in_ok-join-in-Some-clause-seen
note_in_statement-returns-in_ok-join-in-Some-clause-seen t c =
    choice_else_seen _ _ _ _ _ _ _ _ _ _ _ _ _ _ _ c.in-If.is c.in-Some.is c.as_slice-in-If.ensures c.as_slice-in-Some.ensures c.new-aside.ensures c.in_ok-note_in_arms-in-If.ensures.seen c.in_ok-note_in_arms-in-If.ensures.aside
    c.len-start.ensures c.in_ok-note_in_block-in-Some.ensures.seen c.in_ok-join-in-Some.ensures

pub note_in_statement-returns-in_ok-join-in-Some-clause-faults : goal.note_in_statement-returns-in_ok-join-in-Some-clause-faults
note_in_statement-returns-in_ok-join-in-Some-clause-faults t c =
    choice_else_faults _ _ _ _ _ _ _ _ _ _ _ _ _ _ c.in-If.is c.in-Some.is c.as_slice-in-If.ensures c.as_slice-in-Some.ensures c.new-aside.ensures c.in_ok-note_in_arms-in-If.ensures.seen c.in_ok-note_in_arms-in-If.ensures.faults
    c.in_ok-note_in_block-in-Some.ensures.faults

pub note_in_statement-returns-in_ok-insert_all-in-None-otherwise-clause-seen : goal.note_in_statement-returns-in_ok-insert_all-in-None-otherwise-clause-seen
note_in_statement-returns-in_ok-insert_all-in-None-otherwise-clause-seen t c =
    cases_alone_seen _ _ _ _ _ _ _ _ _ _ _ _ c.in-Case.is c.in-None-otherwise.is c.as_slice-in-Case.ensures c.new-aside-in-Case.ensures c.in_ok-note_in_arms-in-Case.ensures.seen c.in_ok-note_in_arms-in-Case.ensures.aside
    c.as_slice-in-None-otherwise.ensures c.in_ok-insert_all-in-None-otherwise.ensures

pub note_in_statement-returns-in_ok-insert_all-in-None-otherwise-clause-faults : goal.note_in_statement-returns-in_ok-insert_all-in-None-otherwise-clause-faults
note_in_statement-returns-in_ok-insert_all-in-None-otherwise-clause-faults t c =
    cases_alone_faults _ _ _ _ _ _ _ _ _ _ c.in-Case.is c.in-None-otherwise.is c.as_slice-in-Case.ensures c.new-aside-in-Case.ensures c.in_ok-note_in_arms-in-Case.ensures.faults

pub note_in_statement-returns-in_ok-join-in-Some-otherwise-clause-seen : goal.note_in_statement-returns-in_ok-join-in-Some-otherwise-clause-seen
note_in_statement-returns-in_ok-join-in-Some-otherwise-clause-seen t c =
    cases_else_seen _ _ _ _ _ _ _ _ _ _ _ _ _ _ _ c.in-Case.is c.in-Some-otherwise.is c.as_slice-in-Case.ensures c.as_slice-in-Some-otherwise.ensures c.new-aside-in-Case.ensures c.in_ok-note_in_arms-in-Case.ensures.seen
    c.in_ok-note_in_arms-in-Case.ensures.aside c.len-start-in-Some-otherwise.ensures c.in_ok-note_in_block-in-Some-otherwise.ensures.seen c.in_ok-join-in-Some-otherwise.ensures

pub note_in_statement-returns-in_ok-join-in-Some-otherwise-clause-faults : goal.note_in_statement-returns-in_ok-join-in-Some-otherwise-clause-faults
note_in_statement-returns-in_ok-join-in-Some-otherwise-clause-faults t c =
    cases_else_faults _ _ _ _ _ _ _ _ _ _ _ _ _ _ c.in-Case.is c.in-Some-otherwise.is c.as_slice-in-Case.ensures c.as_slice-in-Some-otherwise.ensures c.new-aside-in-Case.ensures c.in_ok-note_in_arms-in-Case.ensures.seen
    c.in_ok-note_in_arms-in-Case.ensures.faults c.in_ok-note_in_block-in-Some-otherwise.ensures.faults

pub note_in_statement-returns-in_ok-note_in_block-in-For-clause-seen : goal.note_in_statement-returns-in_ok-note_in_block-in-For-clause-seen
note_in_statement-returns-in_ok-note_in_block-in-For-clause-seen t c =
    turned_seen _ _ _ _ _ _ _ _ _ _ c.in-For.is c.turn_count-count.ensures _ _ _ c.if-count-gt0.true c.as_slice-then-count-gt0.ensures c.is_turned_again-is_later.ensures c.in_ok-note_in_block-in-For.ensures.seen

pub note_in_statement-returns-in_ok-note_in_block-in-For-clause-faults : goal.note_in_statement-returns-in_ok-note_in_block-in-For-clause-faults
note_in_statement-returns-in_ok-note_in_block-in-For-clause-faults t c =
    turned_faults _ _ _ _ _ _ _ _ _ _ c.in-For.is c.turn_count-count.ensures _ _ _ _ c.if-count-gt0.true c.as_slice-then-count-gt0.ensures c.is_turned_again-is_later.ensures c.in_ok-note_in_block-in-For.ensures.faults

pub note_in_statement-returns-else-count-gt0-clause-seen : goal.note_in_statement-returns-else-count-gt0-clause-seen
note_in_statement-returns-else-count-gt0-clause-seen t c = no_turns_seen _ _ _ _ _ _ _ _ _ _ c.in-For.is c.turn_count-count.ensures c.if-count-gt0.false

pub note_in_statement-returns-else-count-gt0-clause-faults : goal.note_in_statement-returns-else-count-gt0-clause-faults
note_in_statement-returns-else-count-gt0-clause-faults t c = no_turns_faults _ _ _ _ _ _ _ _ _ _ c.in-For.is c.turn_count-count.ensures _ c.if-count-gt0.false

pub note_in_statement-returns-in_ok-note_step-in-Next-clause-seen : goal.note_in_statement-returns-in_ok-note_step-in-Next-clause-seen
note_in_statement-returns-in_ok-note_step-in-Next-clause-seen t c = step_seen _ _ _ _ _ _ c.in-Next.is c.in_ok-note_step-in-Next.ensures.seen

pub note_in_statement-returns-in_ok-note_step-in-Next-clause-faults : goal.note_in_statement-returns-in_ok-note_step-in-Next-clause-faults
note_in_statement-returns-in_ok-note_step-in-Next-clause-faults t c = step_faults _ _ _ _ _ _ _ c.in-Next.is c.in_ok-note_step-in-Next.ensures.faults
