use Rattle.std.proofs.Common.{ap}
use Rattle.uc_written_once.specs.Effects.{modified_by, step_by}
use Rattle.uc_written_once.specs.Walks.{walk_arm, walk_block, walk_of}
use Rattle.uc_written_once.proofs.Forms.{asserts_went, assign_went, assumes_went, block_went, call_went, cases_alone_went, cases_else_went, choice_alone_went, choice_else_went, havoc_went, local_went, no_turns_went, skip_went, step_went, turned_went}
use Rattle.uc_written_once.proofs.WrittenOnceTurns.{arms_begin, arms_end, arms_more, each_begin, each_end, each_more, went_as}
use Rattle.uc_written_once.proofs.walk.+note_writes.Goals as goal

pub note_in_arms-loop-arm-init : goal.note_in_arms-loop-arm-init
note_in_arms-loop-arm-init t c = arms_begin (walk_arm (modified_by c.args.effects.now) (step_by c.args.effects.now)) _ _ _ _ _

pub note_in_arms-loop-statement-init : goal.note_in_arms-loop-statement-init
note_in_arms-loop-statement-init t c = each_begin (walk_of (modified_by c.args.effects.now) (step_by c.args.effects.now)) _ _ _ _

pub note_in_arms-loop-statement-preserved : goal.note_in_arms-loop-statement-preserved
note_in_arms-loop-statement-preserved t c =
    each_more (walk_of (modified_by c.args.effects.now) (step_by c.args.effects.now)) _ _ _ _ _ _ _ _ _ c.statement-item.result _ c.loop-statement.invariant c.loop-statement-test.true c.statement-item.is c.in_ok-note_in_statement.ensures

pub note_in_arms-loop-arm-preserved : goal.note_in_arms-loop-arm-preserved
note_in_arms-loop-arm-preserved t c =
    arms_more (walk_arm (modified_by c.args.effects.now) (step_by c.args.effects.now)) _ _ _ _ _ _ _ _ c.loop-statement.seen _ _ _ _ c.len-start.result c.arm-item.result _ c.loop-arm.invariant c.loop-arm-test.true c.arm-item.is c.len-start.ensures
    (went_as _ _ _ _ _ (ap (λ b. walk_block (modified_by c.args.effects.now) (step_by c.args.effects.now) b c.args.again c.loop-arm.seen) c.as_slice-block.ensures)
    (each_end (walk_of (modified_by c.args.effects.now) (step_by c.args.effects.now)) _ _ _ _ _ _ _ c.loop-statement.invariant c.loop-statement-test.false))
    c.in_ok-put_aside.ensures.kept c.in_ok-put_aside.ensures.aside

pub note_in_arms-returns : goal.note_in_arms-returns
note_in_arms-returns t c = arms_end (walk_arm (modified_by c.args.effects.now) (step_by c.args.effects.now)) _ _ _ _ _ _ _ _ _ c.loop-arm.invariant c.loop-arm-test.false

pub note_in_block-loop-statement-init : goal.note_in_block-loop-statement-init
note_in_block-loop-statement-init t c = each_begin (walk_of (modified_by c.args.effects.now) (step_by c.args.effects.now)) _ _ _ _

pub note_in_block-loop-statement-preserved : goal.note_in_block-loop-statement-preserved
note_in_block-loop-statement-preserved t c =
    each_more (walk_of (modified_by c.args.effects.now) (step_by c.args.effects.now)) _ _ _ _ _ _ _ _ _ c.statement-item.result _ c.loop-statement.invariant c.loop-statement-test.true c.statement-item.is c.in_ok-note_in_statement.ensures

pub note_in_block-returns : goal.note_in_block-returns
note_in_block-returns t c = each_end (walk_of (modified_by c.args.effects.now) (step_by c.args.effects.now)) _ _ _ _ _ _ _ c.loop-statement.invariant c.loop-statement-test.false

pub note_in_statement-returns-in_ok-note_in_block-in-Block : goal.note_in_statement-returns-in_ok-note_in_block-in-Block
note_in_statement-returns-in_ok-note_in_block-in-Block t c =
    block_went (modified_by c.args.effects.now) (step_by c.args.effects.now) _ _ _ _ _ _ _ _ _ c.in-Block.is c.as_slice.ensures c.in_ok-note_in_block-in-Block.ensures

pub note_in_statement-returns-in_ok-push_all-in-None : goal.note_in_statement-returns-in_ok-push_all-in-None
note_in_statement-returns-in_ok-push_all-in-None t c =
    choice_alone_went (modified_by c.args.effects.now) (step_by c.args.effects.now) _ _ _ _ _ _ _ _ _ c.as_slice-in-If.ensures c.new-aside.ensures c.in_ok-note_in_arms-in-If.ensures _ _ _ _ c.in-If.is c.in-None.is
    c.in_ok-push_all-in-None.ensures

pub note_in_statement-returns-in_ok-join-in-Some : goal.note_in_statement-returns-in_ok-join-in-Some
note_in_statement-returns-in_ok-join-in-Some t c =
    choice_else_went (modified_by c.args.effects.now) (step_by c.args.effects.now) _ _ _ _ _ _ _ _ _ c.as_slice-in-If.ensures c.new-aside.ensures c.in_ok-note_in_arms-in-If.ensures _ _ _ _ _ _ _ _ _ c.in-If.is c.in-Some.is
    c.as_slice-in-Some.ensures c.len-start.ensures c.in_ok-note_in_block-in-Some.ensures c.in_ok-join-in-Some.ensures

pub note_in_statement-returns-in_ok-push_all-in-None-otherwise : goal.note_in_statement-returns-in_ok-push_all-in-None-otherwise
note_in_statement-returns-in_ok-push_all-in-None-otherwise t c =
    cases_alone_went (modified_by c.args.effects.now) (step_by c.args.effects.now) _ _ _ _ _ _ _ _ _ c.as_slice-in-Case.ensures c.new-aside-in-Case.ensures c.in_ok-note_in_arms-in-Case.ensures _ _ _ _ c.in-Case.is c.in-None-otherwise.is
    c.in_ok-push_all-in-None-otherwise.ensures

pub note_in_statement-returns-in_ok-join-in-Some-otherwise : goal.note_in_statement-returns-in_ok-join-in-Some-otherwise
note_in_statement-returns-in_ok-join-in-Some-otherwise t c =
    cases_else_went (modified_by c.args.effects.now) (step_by c.args.effects.now) _ _ _ _ _ _ _ _ _ c.as_slice-in-Case.ensures c.new-aside-in-Case.ensures c.in_ok-note_in_arms-in-Case.ensures _ _ _ _ _ _ _ _ _ c.in-Case.is
    c.in-Some-otherwise.is c.as_slice-in-Some-otherwise.ensures c.len-start-in-Some-otherwise.ensures c.in_ok-note_in_block-in-Some-otherwise.ensures c.in_ok-join-in-Some-otherwise.ensures

pub note_in_statement-returns-in_ok-note_in_block-in-For : goal.note_in_statement-returns-in_ok-note_in_block-in-For
note_in_statement-returns-in_ok-note_in_block-in-For t c =
    turned_went (modified_by c.args.effects.now) (step_by c.args.effects.now) _ _ _ _ _ _ _ _ _ _ _ c.in-For.is c.turn_count-count.ensures _ _ _ _ c.if-count-gt0.true c.as_slice-then-count-gt0.ensures c.is_turned_again-is_later.ensures
    c.in_ok-note_in_block-in-For.ensures

pub note_in_statement-returns-else-count-gt0 : goal.note_in_statement-returns-else-count-gt0
note_in_statement-returns-else-count-gt0 t c =
    no_turns_went (modified_by c.args.effects.now) (step_by c.args.effects.now) _ _ _ _ _ _ _ _ _ _ _ c.in-For.is c.turn_count-count.ensures c.if-count-gt0.false

pub note_in_statement-returns-in_ok-note_name-in-Havoc : goal.note_in_statement-returns-in_ok-note_name-in-Havoc
note_in_statement-returns-in_ok-note_name-in-Havoc t c = havoc_went (modified_by c.args.effects.now) (step_by c.args.effects.now) _ _ _ _ _ _ _ _ _ c.in-Havoc.is c.in_ok-note_name-in-Havoc.ensures

pub note_in_statement-returns-in_ok-note_targets-in-Assign : goal.note_in_statement-returns-in_ok-note_targets-in-Assign
note_in_statement-returns-in_ok-note_targets-in-Assign t c =
    assign_went (modified_by c.args.effects.now) (step_by c.args.effects.now) _ _ _ _ _ _ _ _ _ _ c.in-Assign.is c.as_slice-in-Assign.ensures c.in_ok-note_targets-in-Assign.ensures

pub note_in_statement-returns-in_ok-note_call-in-Call : goal.note_in_statement-returns-in_ok-note_call-in-Call
note_in_statement-returns-in_ok-note_call-in-Call t c =
    call_went (modified_by c.args.effects.now) (step_by c.args.effects.now) _ _ _ _ _ _ _ _ _ _ _ c.in-Call.is c.as_slice-targets.ensures c.in_ok-note_call-in-Call.ensures

pub note_in_statement-returns-in_ok-note_step-in-Next : goal.note_in_statement-returns-in_ok-note_step-in-Next
note_in_statement-returns-in_ok-note_step-in-Next t c = step_went (modified_by c.args.effects.now) (step_by c.args.effects.now) _ _ _ _ _ _ _ _ c.in-Next.is c.in_ok-note_step-in-Next.ensures

pub note_in_statement-returns-in-Local : goal.note_in_statement-returns-in-Local
note_in_statement-returns-in-Local t c = local_went (modified_by c.args.effects.now) (step_by c.args.effects.now) _ _ _ _ _ _ _ c.in-Local.is

pub note_in_statement-returns-in-Skip : goal.note_in_statement-returns-in-Skip
note_in_statement-returns-in-Skip t c = skip_went (modified_by c.args.effects.now) (step_by c.args.effects.now) _ _ _ _ _ c.in-Skip.is

pub note_in_statement-returns-in-Assert : goal.note_in_statement-returns-in-Assert
note_in_statement-returns-in-Assert t c = asserts_went (modified_by c.args.effects.now) (step_by c.args.effects.now) _ _ _ _ _ _ _ c.in-Assert.is

pub note_in_statement-returns-in-Assume : goal.note_in_statement-returns-in-Assume
note_in_statement-returns-in-Assume t c = assumes_went (modified_by c.args.effects.now) (step_by c.args.effects.now) _ _ _ _ _ _ c.in-Assume.is
