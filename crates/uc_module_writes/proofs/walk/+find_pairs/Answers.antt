use Rattle.std.proofs.Common.{◌∷◌, [], refl}
use Rattle.uc_module_writes.specs.Found.{GoesOnWith, stretch_of}
use Rattle.uc_module_writes.proofs.Going.{arms_begin, arms_end, arms_more, code_found, held_on, last_none, last_some, on_begin, on_end_ones, on_more}
use Rattle.uc_module_writes.proofs.Forms.{assign_on, asserts_on, assumes_on, block_on, call_on, case_on, havoc_on, if_on, local_on, never_on, skip_on, step_on, turns_on}
use Rattle.uc_module_writes.proofs.walk.+find_pairs.Goals as goal

pub find_in_block-loop-statement-init : goal.find_in_block-loop-statement-init
find_in_block-loop-statement-init t c = λ steps finds. on_begin c.args.table.now.names.now (λ s meets. stretch_of c.args.effects.now steps meets s ∷ []) c.args.block.now c.args.all.now

pub find_in_block-loop-statement-preserved : goal.find_in_block-loop-statement-preserved
find_in_block-loop-statement-preserved t c =
    λ steps finds.
    on_more c.args.table.now.names.now (λ s meets. stretch_of c.args.effects.now steps meets s ∷ []) c.args.block.now c.args.all.now _ _ _ c.statement-item.result _ (c.loop-statement.invariant steps finds)
    c.loop-statement-test.true c.statement-item.is (c.in_ok-find_in_statement.ensures steps finds)

pub find_in_block-returns : goal.find_in_block-returns
find_in_block-returns t c =
    λ steps finds.
    on_end_ones c.args.table.now.names.now (λ s meets. stretch_of c.args.effects.now steps meets s) c.args.block.now c.args.all.now _ _ (c.loop-statement.invariant steps finds) c.loop-statement-test.false

pub found_in_block-returns : goal.found_in_block-returns
found_in_block-returns t c =
    code_found c.args.effects.now c.args.table.now c.args.block.now _ _ c.new-own.ensures.parts c.new-own.ensures.kept c.new-own.ensures.pairs
    (held_on (GoesOnWith c.args.effects.now c.args.table.now c.args.block.now c.new-own.result) _ _ _ _ c.in_ok-own.ensures c.find_in_block-found.ensures)

pub found_in_arms-loop-arm-init : goal.found_in_arms-loop-arm-init
found_in_arms-loop-arm-init t c = arms_begin c.args.effects.now c.args.table.now c.args.arms.now _ c.new-either.ensures.parts c.new-either.ensures.kept c.new-either.ensures.pairs

pub found_in_arms-loop-arm-preserved : goal.found_in_arms-loop-arm-preserved
found_in_arms-loop-arm-preserved t c =
    arms_more c.args.effects.now c.args.table.now c.args.arms.now _ _ _ _ _ c.arm-item.result _ c.as_slice.result.now _ c.loop-arm.invariant c.loop-arm-test.true c.arm-item.is c.as_slice.ensures c.found_in_block-own.ensures c.in_ok-others.ensures c.in_ok-either.ensures

pub found_in_arms-returns : goal.found_in_arms-returns
found_in_arms-returns t c = arms_end c.args.effects.now c.args.table.now c.args.arms.now _ _ c.loop-arm.invariant c.loop-arm-test.false

pub found_in_otherwise-returns-in-None : goal.found_in_otherwise-returns-in-None
found_in_otherwise-returns-in-None t c = last_none c.args.effects.now c.args.table.now _ _ c.in-None.is

pub found_in_otherwise-returns-in_ok-either-in-Some : goal.found_in_otherwise-returns-in_ok-either-in-Some
found_in_otherwise-returns-in_ok-either-in-Some t c =
    last_some c.args.effects.now c.args.table.now _ _ c.as_slice.result.now _ _ _ _ _ c.in-Some.is c.as_slice.ensures c.found_in_block-own.ensures c.in_ok-others-in-Some.ensures c.in_ok-either-in-Some.ensures

pub find_in_statement-returns-in_ok-find_in_block-in-Block : goal.find_in_statement-returns-in_ok-find_in_block-in-Block
find_in_statement-returns-in_ok-find_in_block-in-Block t c = block_on c.args.effects.now c.args.table.now _ _ _ _ _ _ c.in-Block.is c.as_slice.ensures c.in_ok-find_in_block-in-Block.ensures

pub find_in_statement-returns-in_ok-then_all-in-If : goal.find_in_statement-returns-in_ok-then_all-in-If
find_in_statement-returns-in_ok-then_all-in-If t c =
    if_on c.args.effects.now c.args.table.now _ _ _ _ _ _ _ _ _ c.as_slice-in-If.ensures c.in_ok-others-in-If.ensures c.in_ok-either-in-If.ensures c.in_ok-then_all-in-If.ensures c.in-If.is

pub find_in_statement-returns-in_ok-then_all-in-Case : goal.find_in_statement-returns-in_ok-then_all-in-Case
find_in_statement-returns-in_ok-then_all-in-Case t c =
    case_on c.args.effects.now c.args.table.now _ _ _ _ _ _ _ _ _ c.as_slice-in-Case.ensures c.in_ok-others-in-Case.ensures c.in_ok-either-in-Case.ensures c.in_ok-then_all-in-Case.ensures c.in-Case.is

pub find_in_statement-returns-in_ok-then_turns-in-For : goal.find_in_statement-returns-in_ok-then_turns-in-For
find_in_statement-returns-in_ok-then_turns-in-For t c =
    turns_on c.args.effects.now c.args.table.now _ _ _ _ _ _ _ _ _ _ c.in-For.is c.turn_count-count.ensures c.as_slice-then-count-gt0.result.now _ _ c.if-count-gt0.true c.as_slice-then-count-gt0.ensures
    c.in_ok-turn-in-For.ensures refl c.in_ok-then_turns-in-For.ensures

pub find_in_statement-returns-else-count-gt0 : goal.find_in_statement-returns-else-count-gt0
find_in_statement-returns-else-count-gt0 t c = never_on c.args.effects.now c.args.table.now _ _ _ _ _ _ _ _ _ _ c.in-For.is c.turn_count-count.ensures c.if-count-gt0.false refl

pub find_in_statement-returns-in_ok-write_name-in-Havoc : goal.find_in_statement-returns-in_ok-write_name-in-Havoc
find_in_statement-returns-in_ok-write_name-in-Havoc t c = havoc_on c.args.effects.now c.args.table.now _ _ _ _ _ c.names.ensures _ _ c.in-Havoc.is c.in_ok-write_name-in-Havoc.ensures

pub find_in_statement-returns-in_ok-write_targets-in-Assign : goal.find_in_statement-returns-in_ok-write_targets-in-Assign
find_in_statement-returns-in_ok-write_targets-in-Assign t c =
    assign_on c.args.effects.now c.args.table.now _ _ _ _ _ c.names-in-Assign.ensures _ _ _ c.in-Assign.is c.as_slice-in-Assign.ensures c.in_ok-write_targets-in-Assign.ensures

pub find_in_statement-returns-in_ok-write_modified-in-Call : goal.find_in_statement-returns-in_ok-write_modified-in-Call
find_in_statement-returns-in_ok-write_modified-in-Call t c =
    call_on c.args.effects.now c.args.table.now _ _ _ _ _ c.names-in-Call.ensures _ _ _ _ _ _ c.in-Call.is c.as_slice-in-Call.ensures c.names-in-Call-2.ensures c.in_ok-write_targets-in-Call.ensures
    c.in_ok-write_modified-in-Call.ensures

pub find_in_statement-returns-in_ok-write_step-in-Next : goal.find_in_statement-returns-in_ok-write_step-in-Next
find_in_statement-returns-in_ok-write_step-in-Next t c = step_on c.args.effects.now c.args.table.now _ _ _ _ _ c.in-Next.is c.in_ok-write_step-in-Next.ensures

pub find_in_statement-returns-in-Local : goal.find_in_statement-returns-in-Local
find_in_statement-returns-in-Local t c = local_on c.args.effects.now c.args.table.now _ _ _ _ _ _ c.in-Local.is refl

pub find_in_statement-returns-in-Skip : goal.find_in_statement-returns-in-Skip
find_in_statement-returns-in-Skip t c = skip_on c.args.effects.now c.args.table.now _ _ _ _ c.in-Skip.is refl

pub find_in_statement-returns-in-Assert : goal.find_in_statement-returns-in-Assert
find_in_statement-returns-in-Assert t c = asserts_on c.args.effects.now c.args.table.now _ _ _ _ _ _ c.in-Assert.is refl

pub find_in_statement-returns-in-Assume : goal.find_in_statement-returns-in-Assume
find_in_statement-returns-in-Assume t c = assumes_on c.args.effects.now c.args.table.now _ _ _ _ _ c.in-Assume.is refl
