use Rattle.std.proofs.Common.{refl}
use Rattle.uc_written_once.specs.LoneFaultsWalks.{in_arm, long_loops}
use Rattle.uc_written_once.proofs.Noted.{noted_begin, noted_more, arm_shown}
use Rattle.uc_written_once.proofs.LoopForms.{block, case_alone, case_else, for_loop, if_alone, if_else}
use Rattle.uc_written_once.proofs.loops.+note_loops.Goals as goal

pub note_in_arms-loop-arm-init : goal.note_in_arms-loop-arm-init
note_in_arms-loop-arm-init t c = noted_begin _ _ _

pub note_in_arms-loop-statement-init : goal.note_in_arms-loop-statement-init
note_in_arms-loop-statement-init t c = noted_begin _ _ _

pub note_in_arms-loop-statement-preserved : goal.note_in_arms-loop-statement-preserved
note_in_arms-loop-statement-preserved t c =
    noted_more long_loops _ _ _ _ _ c.statement-item.result _ c.loop-statement.invariant c.loop-statement-test.true c.statement-item.is c.note_in_statement.ensures

pub note_in_arms-loop-arm-preserved : goal.note_in_arms-loop-arm-preserved
note_in_arms-loop-arm-preserved t c =
    noted_more (in_arm long_loops) _ _ _ _ _ c.arm-item.result _ c.loop-arm.invariant c.loop-arm-test.true c.arm-item.is
    (arm_shown long_loops c.arm-item.result _ _ _ _ c.as_slice-block.ensures c.loop-statement.invariant c.loop-statement-test.false)

pub note_in_block-loop-statement-init : goal.note_in_block-loop-statement-init
note_in_block-loop-statement-init t c = noted_begin _ _ _

pub note_in_block-loop-statement-preserved : goal.note_in_block-loop-statement-preserved
note_in_block-loop-statement-preserved t c =
    noted_more long_loops _ _ _ _ _ c.statement-item.result _ c.loop-statement.invariant c.loop-statement-test.true c.statement-item.is c.note_in_statement.ensures

pub note_in_statement-returns-in-Block : goal.note_in_statement-returns-in-Block
note_in_statement-returns-in-Block t c = block _ _ _ _ _ _ c.in-Block.is c.as_slice.ensures c.note_in_block.ensures

pub note_in_statement-returns-in-None : goal.note_in_statement-returns-in-None
note_in_statement-returns-in-None t c = if_alone _ _ _ _ _ _ _ c.in-If.is c.in-None.is c.as_slice-in-If.ensures c.note_in_arms.ensures

pub note_in_statement-returns-in-Some : goal.note_in_statement-returns-in-Some
note_in_statement-returns-in-Some t c =
    if_else _ _ _ _ _ _ _ _ _ _ c.in-If.is c.in-Some.is c.as_slice-in-If.ensures c.as_slice-in-Some.ensures c.note_in_arms.ensures c.note_in_block-in-Some.ensures

pub note_in_statement-returns-in-None-otherwise : goal.note_in_statement-returns-in-None-otherwise
note_in_statement-returns-in-None-otherwise t c = case_alone _ _ _ _ _ _ _ c.in-Case.is c.in-None-otherwise.is c.as_slice-in-Case.ensures c.note_in_arms-in-Case.ensures

pub note_in_statement-returns-in-Some-otherwise : goal.note_in_statement-returns-in-Some-otherwise
note_in_statement-returns-in-Some-otherwise t c =
    case_else _ _ _ _ _ _ _ _ _ _ c.in-Case.is c.in-Some-otherwise.is c.as_slice-in-Case.ensures c.as_slice-in-Some-otherwise.ensures c.note_in_arms-in-Case.ensures
    c.note_in_block-in-Some-otherwise.ensures

pub note_in_statement-returns-in-For : goal.note_in_statement-returns-in-For
note_in_statement-returns-in-For t c =
    for_loop _ _ _ _ _ _ _ _ _ _ _ _ _ c.in-For.is c.as_slice-in-For.ensures c.turn_count-is_long.ensures refl c.note_where.ensures c.note_in_block-in-For.ensures
