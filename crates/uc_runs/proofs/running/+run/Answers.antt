use Rattle.std.proofs.Common.{◌≡◌, List, ◌++◌, Some, None, refl, ap, ◌∙◌, sym, subst, rules, arith}
use Rattle.std.specs.Prelude.{Err, if◌then◌else◌}
use Rattle.uc_syntax.specs.declared.statement.Stmt.{Stmt}
use Rattle.uc_meaning.specs.Lookup.{module_at, first_some, procedure_in}
use Rattle.uc_meaning.specs.Expressions.{is_true}
use Rattle.uc_meaning.specs.Code.{Goes, Stopped, then_run, in_scope, keep_locals, push_local, taken, run_through, write_all, results}
use Rattle.uc_meaning.specs.OverflowsRuns.{met_after, conditions_met, run_met_through, targets_met}
use Rattle.uc_operators.specs.Overflows.{first_wide, TellsWide}
use Rattle.uc_runs.specs.Levels.{run_at, run_met_at, one_at, one_met_at, turns_at, turns_met_at}
use Rattle.uc_runs.proofs.Forms.{run_none, run_next, met_none, met_next}
use Rattle.uc_evaluator.proofs.Told.{told_first, told_second, told_as, told_all, gives_as}
use Rattle.uc_evaluator.proofs.Sizes.{part_size}
use Rattle.uc_runs.specs.declared.run.Run.{Run}
use Rattle.uc_runs.specs.declared.run.Ending.{Ending}
use Rattle.uc_runs.specs.declared.call.Entry.{Entry}
use Rattle.uc_runs.specs.Runs.{running, ending_of, with_locals, LeavesLocals}
use Rattle.uc_runs.proofs.Places.{stays, meets_none, behind, met_behind}
use Rattle.uc_runs.proofs.Loops.{runs_end, runs_more, runs_out, met_end, met_told, met_more, met_out}
use Rattle.uc_runs.specs.Turns.{block_at, turn_at}
use Rattle.uc_runs.proofs.Sizes.{size, sizes, arms_size, block_size, if_size, case_size, for_size, call_size, taken_size}
use Rattle.uc_runs.proofs.Bodies.{bodies, called_size}
use Rattle.uc_runs.proofs.Levels.{left_below, below_left, left_within, body_runs, body_meets, no_body, none_met}
use Rattle.uc_runs.proofs.Statements.{declared_is, declared_met, skip_is, skip_met, block_is, block_met, assert_is, assert_met, assume_is, assume_met, havoc_is, havoc_met, assign_is, assign_met, if_is, if_met, case_is, case_met, for_is, for_met, call_is, call_met_is, next_is, next_met, turns_none, turns_next, turn_met, turns_met_none, turns_met_next, ends_so, at_choices}
use Rattle.uc_runs.proofs.Calls.{called_value, called_met, leaves_locals, body_value, body_meets as body_is_met, entry_met, body_met, ended, handed_met, no_module, no_module_met, called_is, called_met_is}
use Rattle.uc_runs.proofs.running.+run.Goals as goal

pub run_each-run_one-requires : goal.run_each-run_one-requires
run_each-run_one-requires t c =
    let part = part_size size c.args.code.now c.loop-statement.statement-index c.statement-item.result c.statement-item.result c.loop-statement-test.true c.statement-item.is in
    (omega (arith, c.decreases, part), tt)

pub run_each-returns-in_err-end-clause-wide : goal.run_each-returns-in_err-end-clause-wide
run_each-returns-in_err-end-clause-wide t c =
    let told = met_told (one_at c.args.below c.args.layout.now) (run_at c.args.below c.args.layout.now) (run_none c.args.below c.args.layout.now) (run_next c.args.below c.args.layout.now) (one_met_at c.args.below c.args.layout.now) (run_met_at c.args.below c.args.layout.now) (met_none c.args.below c.args.layout.now) (met_next c.args.below c.args.layout.now) c.args.choices.now c.args.code.now c.loop-statement.statement-index c.loop-statement.here c.statement-item.result c.statement-item.result c.loop-statement-test.true c.statement-item.is Ending Ending _ c.in_err-end.field-0.0 c.loop-statement.invariant.wide c.in_err-end.ensures.wide in
    search (rules, told)

pub run_each-loop-statement-preserved : goal.run_each-loop-statement-preserved
run_each-loop-statement-preserved t c =
    record {
      value = runs_more (one_at c.args.below c.args.layout.now) (run_at c.args.below c.args.layout.now) (run_none c.args.below c.args.layout.now) (run_next c.args.below c.args.layout.now) c.args.choices.now c.args.code.now c.loop-statement.statement-index c.loop-statement.here c.statement-item.result c.statement-item.result c.loop-statement-test.true c.statement-item.is c.in_ok-end.end c.in_ok-end.ensures.value c.in-Goes.next _ c.in-Goes.is c.loop-statement.invariant.value;
      wide = met_more (one_at c.args.below c.args.layout.now) (run_at c.args.below c.args.layout.now) (run_none c.args.below c.args.layout.now) (run_next c.args.below c.args.layout.now) (one_met_at c.args.below c.args.layout.now) (run_met_at c.args.below c.args.layout.now) (met_none c.args.below c.args.layout.now) (met_next c.args.below c.args.layout.now) c.args.choices.now c.args.code.now c.loop-statement.statement-index c.loop-statement.here c.statement-item.result c.statement-item.result c.loop-statement-test.true c.statement-item.is c.in_ok-end.end c.in_ok-end.ensures.value c.in_ok-end.ensures.wide c.in-Goes.next _ c.in-Goes.is c.loop-statement.invariant.wide;
    }

pub run_each-returns-in_default-clause-value : goal.run_each-returns-in_default-clause-value
run_each-returns-in_default-clause-value t c =
    runs_out (one_at c.args.below c.args.layout.now) (run_at c.args.below c.args.layout.now) (run_none c.args.below c.args.layout.now) (run_next c.args.below c.args.layout.now) c.args.choices.now c.args.code.now c.loop-statement.statement-index c.loop-statement.here c.statement-item.result c.statement-item.result c.loop-statement-test.true c.statement-item.is c.in_ok-end.end c.in_ok-end.ensures.value _ c.in_default.not-Goes c.loop-statement.invariant.value

pub run_each-returns-in_default-clause-wide : goal.run_each-returns-in_default-clause-wide
run_each-returns-in_default-clause-wide t c =
    met_out (one_at c.args.below c.args.layout.now) (run_at c.args.below c.args.layout.now) (run_none c.args.below c.args.layout.now) (run_next c.args.below c.args.layout.now) (one_met_at c.args.below c.args.layout.now) (run_met_at c.args.below c.args.layout.now) (met_none c.args.below c.args.layout.now) (met_next c.args.below c.args.layout.now) c.args.choices.now c.args.code.now c.loop-statement.statement-index c.loop-statement.here c.statement-item.result c.statement-item.result c.loop-statement-test.true c.statement-item.is c.in_ok-end.end c.in_ok-end.ensures.value c.in_ok-end.ensures.wide _ c.in_default.not-Goes c.loop-statement.invariant.wide

pub run_each-returns-clause-value : goal.run_each-returns-clause-value
run_each-returns-clause-value t c =
    runs_end (one_at c.args.below c.args.layout.now) (run_at c.args.below c.args.layout.now) (run_none c.args.below c.args.layout.now) (run_next c.args.below c.args.layout.now) c.args.choices.now c.args.code.now c.loop-statement.statement-index c.loop-statement.here _ c.loop-statement-test.false c.loop-statement.invariant.value

pub run_each-returns-clause-wide : goal.run_each-returns-clause-wide
run_each-returns-clause-wide t c =
    met_end (one_at c.args.below c.args.layout.now) (run_at c.args.below c.args.layout.now) (run_none c.args.below c.args.layout.now) (run_next c.args.below c.args.layout.now) (one_met_at c.args.below c.args.layout.now) (run_met_at c.args.below c.args.layout.now) (met_none c.args.below c.args.layout.now) (met_next c.args.below c.args.layout.now) c.args.choices.now c.args.code.now c.loop-statement.statement-index c.loop-statement.here _ c.loop-statement-test.false c.loop-statement.invariant.wide

pub run_turns-run_turn-requires : goal.run_turns-run_turn-requires
run_turns-run_turn-requires t c =
    (omega (arith, c.decreases), tt)

pub run_turns-returns-in_err-end-clause-wide : goal.run_turns-returns-in_err-end-clause-wide
run_turns-returns-in_err-end-clause-wide t c =
    let here = told_as Ending Ending _ _ c.in_err-end.field-0.0 (ap (λ l. run_met_at c.args.below c.args.layout.now c.args.block.now (push_local l.name l.ty l.value (running c.args.choices.now c.loop-value.here))) c.in_ok-local.ensures) c.in_err-end.ensures.wide in
    let told = met_told (turn_at c.args.below c.args.layout.now c.args.variable c.args.ty.now c.args.block.now) (turns_at c.args.below c.args.layout.now c.args.variable c.args.ty.now c.args.block.now) (turns_none c.args.below c.args.layout.now c.args.variable c.args.ty.now c.args.block.now) (turns_next c.args.below c.args.layout.now c.args.variable c.args.ty.now c.args.block.now) (turn_met c.args.below c.args.layout.now c.args.variable c.args.ty.now c.args.block.now) (turns_met_at c.args.below c.args.layout.now c.args.variable c.args.ty.now c.args.block.now) (turns_met_none c.args.below c.args.layout.now c.args.variable c.args.ty.now c.args.block.now) (turns_met_next c.args.below c.args.layout.now c.args.variable c.args.ty.now c.args.block.now) c.args.choices.now c.args.values.now c.loop-value.value-index c.loop-value.here c.value-item.result c.value-item.result c.loop-value-test.true c.value-item.is Ending Ending _ c.in_err-end.field-0.0 c.loop-value.invariant.wide here in
    search (rules, told)

pub run_turns-loop-value-preserved : goal.run_turns-loop-value-preserved
run_turns-loop-value-preserved t c =
    let runs = c.in_ok-end.ensures.value ∙ (λ k. turn_at c.args.below c.args.layout.now (c.in_ok-local.ensures k).name (c.in_ok-local.ensures k).ty c.args.block.now (c.in_ok-local.ensures k).value (running c.args.choices.now c.loop-value.here)) in
    let fine = ap first_wide (sym (ap (λ l. run_met_at c.args.below c.args.layout.now c.args.block.now (push_local l.name l.ty l.value (running c.args.choices.now c.loop-value.here))) c.in_ok-local.ensures)) ∙ c.in_ok-end.ensures.wide in
    record {
      value = runs_more (turn_at c.args.below c.args.layout.now c.args.variable c.args.ty.now c.args.block.now) (turns_at c.args.below c.args.layout.now c.args.variable c.args.ty.now c.args.block.now) (turns_none c.args.below c.args.layout.now c.args.variable c.args.ty.now c.args.block.now) (turns_next c.args.below c.args.layout.now c.args.variable c.args.ty.now c.args.block.now) c.args.choices.now c.args.values.now c.loop-value.value-index c.loop-value.here c.value-item.result c.value-item.result c.loop-value-test.true c.value-item.is c.in_ok-end.end runs c.in-Goes.next _ c.in-Goes.is c.loop-value.invariant.value;
      wide = met_more (turn_at c.args.below c.args.layout.now c.args.variable c.args.ty.now c.args.block.now) (turns_at c.args.below c.args.layout.now c.args.variable c.args.ty.now c.args.block.now) (turns_none c.args.below c.args.layout.now c.args.variable c.args.ty.now c.args.block.now) (turns_next c.args.below c.args.layout.now c.args.variable c.args.ty.now c.args.block.now) (turn_met c.args.below c.args.layout.now c.args.variable c.args.ty.now c.args.block.now) (turns_met_at c.args.below c.args.layout.now c.args.variable c.args.ty.now c.args.block.now) (turns_met_none c.args.below c.args.layout.now c.args.variable c.args.ty.now c.args.block.now) (turns_met_next c.args.below c.args.layout.now c.args.variable c.args.ty.now c.args.block.now) c.args.choices.now c.args.values.now c.loop-value.value-index c.loop-value.here c.value-item.result c.value-item.result c.loop-value-test.true c.value-item.is c.in_ok-end.end runs fine c.in-Goes.next _ c.in-Goes.is c.loop-value.invariant.wide;
    }

pub run_turns-returns-in_default-clause-value : goal.run_turns-returns-in_default-clause-value
run_turns-returns-in_default-clause-value t c =
    let runs = c.in_ok-end.ensures.value ∙ (λ k. turn_at c.args.below c.args.layout.now (c.in_ok-local.ensures k).name (c.in_ok-local.ensures k).ty c.args.block.now (c.in_ok-local.ensures k).value (running c.args.choices.now c.loop-value.here)) in
    runs_out (turn_at c.args.below c.args.layout.now c.args.variable c.args.ty.now c.args.block.now) (turns_at c.args.below c.args.layout.now c.args.variable c.args.ty.now c.args.block.now) (turns_none c.args.below c.args.layout.now c.args.variable c.args.ty.now c.args.block.now) (turns_next c.args.below c.args.layout.now c.args.variable c.args.ty.now c.args.block.now) c.args.choices.now c.args.values.now c.loop-value.value-index c.loop-value.here c.value-item.result c.value-item.result c.loop-value-test.true c.value-item.is c.in_ok-end.end runs _ c.in_default.not-Goes c.loop-value.invariant.value

pub run_turns-returns-in_default-clause-wide : goal.run_turns-returns-in_default-clause-wide
run_turns-returns-in_default-clause-wide t c =
    let runs = c.in_ok-end.ensures.value ∙ (λ k. turn_at c.args.below c.args.layout.now (c.in_ok-local.ensures k).name (c.in_ok-local.ensures k).ty c.args.block.now (c.in_ok-local.ensures k).value (running c.args.choices.now c.loop-value.here)) in
    let fine = ap first_wide (sym (ap (λ l. run_met_at c.args.below c.args.layout.now c.args.block.now (push_local l.name l.ty l.value (running c.args.choices.now c.loop-value.here))) c.in_ok-local.ensures)) ∙ c.in_ok-end.ensures.wide in
    met_out (turn_at c.args.below c.args.layout.now c.args.variable c.args.ty.now c.args.block.now) (turns_at c.args.below c.args.layout.now c.args.variable c.args.ty.now c.args.block.now) (turns_none c.args.below c.args.layout.now c.args.variable c.args.ty.now c.args.block.now) (turns_next c.args.below c.args.layout.now c.args.variable c.args.ty.now c.args.block.now) (turn_met c.args.below c.args.layout.now c.args.variable c.args.ty.now c.args.block.now) (turns_met_at c.args.below c.args.layout.now c.args.variable c.args.ty.now c.args.block.now) (turns_met_none c.args.below c.args.layout.now c.args.variable c.args.ty.now c.args.block.now) (turns_met_next c.args.below c.args.layout.now c.args.variable c.args.ty.now c.args.block.now) c.args.choices.now c.args.values.now c.loop-value.value-index c.loop-value.here c.value-item.result c.value-item.result c.loop-value-test.true c.value-item.is c.in_ok-end.end runs fine _ c.in_default.not-Goes c.loop-value.invariant.wide

pub run_turns-returns-clause-value : goal.run_turns-returns-clause-value
run_turns-returns-clause-value t c =
    runs_end (turn_at c.args.below c.args.layout.now c.args.variable c.args.ty.now c.args.block.now) (turns_at c.args.below c.args.layout.now c.args.variable c.args.ty.now c.args.block.now) (turns_none c.args.below c.args.layout.now c.args.variable c.args.ty.now c.args.block.now) (turns_next c.args.below c.args.layout.now c.args.variable c.args.ty.now c.args.block.now) c.args.choices.now c.args.values.now c.loop-value.value-index c.loop-value.here _ c.loop-value-test.false c.loop-value.invariant.value

pub run_turns-returns-clause-wide : goal.run_turns-returns-clause-wide
run_turns-returns-clause-wide t c =
    met_end (turn_at c.args.below c.args.layout.now c.args.variable c.args.ty.now c.args.block.now) (turns_at c.args.below c.args.layout.now c.args.variable c.args.ty.now c.args.block.now) (turns_none c.args.below c.args.layout.now c.args.variable c.args.ty.now c.args.block.now) (turns_next c.args.below c.args.layout.now c.args.variable c.args.ty.now c.args.block.now) (turn_met c.args.below c.args.layout.now c.args.variable c.args.ty.now c.args.block.now) (turns_met_at c.args.below c.args.layout.now c.args.variable c.args.ty.now c.args.block.now) (turns_met_none c.args.below c.args.layout.now c.args.variable c.args.ty.now c.args.block.now) (turns_met_next c.args.below c.args.layout.now c.args.variable c.args.ty.now c.args.block.now) c.args.choices.now c.args.values.now c.loop-value.value-index c.loop-value.here _ c.loop-value-test.false c.loop-value.invariant.wide

pub run_one-run_block-requires : goal.run_one-run_block-requires
run_one-run_block-requires t c =
    (omega (arith, c.decreases, ap size c.in-Block.is, block_size c.in-Block.field-0 c.in-Block.block, ap sizes c.as_slice-in-Block.ensures), tt)

pub run_one-run_taken-requires : goal.run_one-run_taken-requires
run_one-run_taken-requires t c =
    (omega (arith, c.decreases, ap size c.in-If.is, if_size c.in-If.field-0 c.in-If.arms c.in-If.otherwise, ap (λ xs. arms_size xs c.in-If.otherwise) c.as_slice-arms.ensures), tt)

pub run_one-run_taken-requires-in-Case : goal.run_one-run_taken-requires-in-Case
run_one-run_taken-requires-in-Case t c =
    (omega (arith, c.decreases, ap size c.in-Case.is, case_size c.in-Case.field-0 c.in-Case.arms c.in-Case.otherwise, ap (λ xs. arms_size xs c.in-Case.otherwise) c.as_slice-arms-in-Case.ensures), tt)

pub run_one-run_turns-requires : goal.run_one-run_turns-requires
run_one-run_turns-requires t c =
    (omega (arith, c.decreases, ap size c.in-For.is, for_size c.in-For.field-0 c.in-For.variable c.in-For.field-2 c.in-For.from c.in-For.to c.in-For.block, ap sizes c.as_slice-in-For-2.ensures), tt)

pub run_one-run_call-requires : goal.run_one-run_call-requires
run_one-run_call-requires t c =
    (omega (arith, c.decreases, ap size c.in-Call.is, call_size c.in-Call.place c.in-Call.targets c.in-Call.procedure c.in-Call.arguments), tt)

pub run_one-returns-in_ok-declared-in-Local-clause-value : goal.run_one-returns-in_ok-declared-in-Local-clause-value
run_one-returns-in_ok-declared-in-Local-clause-value t c =
    c.in_ok-declared-in-Local.ensures ∙ declared_is c.args.below c.args.layout.now c.args.statement.now (running c.args.choices.now c.args.run) c.in-Local.field-0 c.in-Local.names c.in-Local.ty c.in-Local.is _ c.as_slice.ensures

pub run_one-returns-in_ok-declared-in-Local-clause-wide : goal.run_one-returns-in_ok-declared-in-Local-clause-wide
run_one-returns-in_ok-declared-in-Local-clause-wide t c =
    ap first_wide (sym (declared_met c.args.below c.args.layout.now c.args.statement.now (running c.args.choices.now c.args.run) c.in-Local.field-0 c.in-Local.names c.in-Local.ty c.in-Local.is))

pub run_one-returns-in-Skip-clause-value : goal.run_one-returns-in-Skip-clause-value
run_one-returns-in-Skip-clause-value t c =
    skip_is c.args.below c.args.layout.now c.args.statement.now (running c.args.choices.now c.args.run) c.in-Skip.field-0 c.in-Skip.is

pub run_one-returns-in-Skip-clause-wide : goal.run_one-returns-in-Skip-clause-wide
run_one-returns-in-Skip-clause-wide t c =
    ap first_wide (sym (skip_met c.args.below c.args.layout.now c.args.statement.now (running c.args.choices.now c.args.run) c.in-Skip.field-0 c.in-Skip.is))

pub run_one-returns-in-Block-clause-value : goal.run_one-returns-in-Block-clause-value
run_one-returns-in-Block-clause-value t c =
    gives_as (ending_of c.args.choices.now) _ _ c.run_block.result (block_is c.args.below c.args.layout.now c.args.statement.now (running c.args.choices.now c.args.run) c.in-Block.field-0 c.in-Block.block c.in-Block.is _ c.as_slice-in-Block.ensures) c.run_block.ensures.value

pub run_one-returns-in-Block-clause-wide : goal.run_one-returns-in-Block-clause-wide
run_one-returns-in-Block-clause-wide t c =
    told_all _ _ c.run_block.result (block_met c.args.below c.args.layout.now c.args.statement.now (running c.args.choices.now c.args.run) c.in-Block.field-0 c.in-Block.block c.in-Block.is _ c.as_slice-in-Block.ensures) c.run_block.ensures.wide

pub run_one-returns-in_err-run-in-Assert-clause-wide : goal.run_one-returns-in_err-run-in-Assert-clause-wide
run_one-returns-in_err-run-in-Assert-clause-wide t c =
    let told = told_as Run Ending _ _ c.in_err-run-in-Assert.field-0.0 (assert_met c.args.below c.args.layout.now c.args.statement.now (running c.args.choices.now c.args.run) c.in-Assert.place c.in-Assert.field-1 c.in-Assert.formula c.in-Assert.is) c.in_err-run-in-Assert.ensures.wide in
    search (rules, told)

pub run_one-returns-in_ok-run-in-Assert-clause-value : goal.run_one-returns-in_ok-run-in-Assert-clause-value
run_one-returns-in_ok-run-in-Assert-clause-value t c =
    ap Goes (c.in_ok-run-in-Assert.ensures.value c.args.choices.now) ∙ assert_is c.args.below c.args.layout.now c.args.statement.now (running c.args.choices.now c.args.run) c.in-Assert.place c.in-Assert.field-1 c.in-Assert.formula c.in-Assert.is

pub run_one-returns-in_ok-run-in-Assert-clause-wide : goal.run_one-returns-in_ok-run-in-Assert-clause-wide
run_one-returns-in_ok-run-in-Assert-clause-wide t c =
    ap first_wide (sym (assert_met c.args.below c.args.layout.now c.args.statement.now (running c.args.choices.now c.args.run) c.in-Assert.place c.in-Assert.field-1 c.in-Assert.formula c.in-Assert.is)) ∙ c.in_ok-run-in-Assert.ensures.wide

pub run_one-returns-in-Assume-clause-value : goal.run_one-returns-in-Assume-clause-value
run_one-returns-in-Assume-clause-value t c =
    ends_so c.args.below c.args.layout.now c.args.statement.now c.args.run c.args.choices.now (λ r. if is_true c.args.layout.now r.scope c.in-Assume.formula then Goes r else Stopped) (assume_is c.args.below c.args.layout.now c.args.statement.now (running c.args.choices.now c.args.run) c.in-Assume.field-0 c.in-Assume.formula c.in-Assume.is) c.assumed.result c.assumed.ensures.value

pub run_one-returns-in-Assume-clause-wide : goal.run_one-returns-in-Assume-clause-wide
run_one-returns-in-Assume-clause-wide t c =
    told_all _ _ c.assumed.result (assume_met c.args.below c.args.layout.now c.args.statement.now (running c.args.choices.now c.args.run) c.in-Assume.field-0 c.in-Assume.formula c.in-Assume.is) c.assumed.ensures.wide

pub run_one-returns-in_ok-havoc-in-Havoc-clause-value : goal.run_one-returns-in_ok-havoc-in-Havoc-clause-value
run_one-returns-in_ok-havoc-in-Havoc-clause-value t c =
    c.in_ok-havoc-in-Havoc.ensures ∙ havoc_is c.args.below c.args.layout.now c.args.statement.now (running c.args.choices.now c.args.run) c.in-Havoc.field-0 c.in-Havoc.name c.in-Havoc.field-2 c.in-Havoc.is

pub run_one-returns-in_ok-havoc-in-Havoc-clause-wide : goal.run_one-returns-in_ok-havoc-in-Havoc-clause-wide
run_one-returns-in_ok-havoc-in-Havoc-clause-wide t c =
    ap first_wide (sym (havoc_met c.args.below c.args.layout.now c.args.statement.now (running c.args.choices.now c.args.run) c.in-Havoc.field-0 c.in-Havoc.name c.in-Havoc.field-2 c.in-Havoc.is))

pub run_one-returns-in_err-run-in-Assign-clause-wide : goal.run_one-returns-in_err-run-in-Assign-clause-wide
run_one-returns-in_err-run-in-Assign-clause-wide t c =
    let told = told_as Run Ending _ _ c.in_err-run-in-Assign.field-0.0 (assign_met c.args.below c.args.layout.now c.args.statement.now (running c.args.choices.now c.args.run) c.in-Assign.field-0 c.in-Assign.targets c.in-Assign.sources c.in-Assign.is _ _ c.as_slice-in-Assign.ensures c.as_slice-in-Assign-2.ensures) c.in_err-run-in-Assign.ensures.wide in
    search (rules, told)

pub run_one-returns-in_ok-run-in-Assign-clause-value : goal.run_one-returns-in_ok-run-in-Assign-clause-value
run_one-returns-in_ok-run-in-Assign-clause-value t c =
    ap Goes (c.in_ok-run-in-Assign.ensures.value c.args.choices.now) ∙ assign_is c.args.below c.args.layout.now c.args.statement.now (running c.args.choices.now c.args.run) c.in-Assign.field-0 c.in-Assign.targets c.in-Assign.sources c.in-Assign.is _ _ c.as_slice-in-Assign.ensures c.as_slice-in-Assign-2.ensures

pub run_one-returns-in_ok-run-in-Assign-clause-wide : goal.run_one-returns-in_ok-run-in-Assign-clause-wide
run_one-returns-in_ok-run-in-Assign-clause-wide t c =
    ap first_wide (sym (assign_met c.args.below c.args.layout.now c.args.statement.now (running c.args.choices.now c.args.run) c.in-Assign.field-0 c.in-Assign.targets c.in-Assign.sources c.in-Assign.is _ _ c.as_slice-in-Assign.ensures c.as_slice-in-Assign-2.ensures)) ∙ c.in_ok-run-in-Assign.ensures.wide

pub run_one-returns-in-If-clause-value : goal.run_one-returns-in-If-clause-value
run_one-returns-in-If-clause-value t c =
    gives_as (ending_of c.args.choices.now) _ _ c.run_taken.result (if_is c.args.below c.args.layout.now c.args.statement.now (running c.args.choices.now c.args.run) c.in-If.field-0 c.in-If.arms c.in-If.otherwise _ c.as_slice-arms.ensures c.in-If.is) c.run_taken.ensures.value

pub run_one-returns-in-If-clause-wide : goal.run_one-returns-in-If-clause-wide
run_one-returns-in-If-clause-wide t c =
    told_all _ _ c.run_taken.result (if_met c.args.below c.args.layout.now c.args.statement.now (running c.args.choices.now c.args.run) c.in-If.field-0 c.in-If.arms c.in-If.otherwise _ c.as_slice-arms.ensures c.in-If.is) c.run_taken.ensures.wide

pub run_one-returns-in-Case-clause-value : goal.run_one-returns-in-Case-clause-value
run_one-returns-in-Case-clause-value t c =
    gives_as (ending_of c.args.choices.now) _ _ c.run_taken-in-Case.result (case_is c.args.below c.args.layout.now c.args.statement.now (running c.args.choices.now c.args.run) c.in-Case.field-0 c.in-Case.arms c.in-Case.otherwise _ c.as_slice-arms-in-Case.ensures c.in-Case.is) c.run_taken-in-Case.ensures.value

pub run_one-returns-in-Case-clause-wide : goal.run_one-returns-in-Case-clause-wide
run_one-returns-in-Case-clause-wide t c =
    told_all _ _ c.run_taken-in-Case.result (case_met c.args.below c.args.layout.now c.args.statement.now (running c.args.choices.now c.args.run) c.in-Case.field-0 c.in-Case.arms c.in-Case.otherwise _ c.as_slice-arms-in-Case.ensures c.in-Case.is) c.run_taken-in-Case.ensures.wide

pub run_one-returns-in_ok-turns-in-For-clause-value : goal.run_one-returns-in_ok-turns-in-For-clause-value
run_one-returns-in_ok-turns-in-For-clause-value t c =
    gives_as (ending_of c.args.choices.now) _ _ c.run_turns.result (for_is c.args.below c.args.layout.now c.args.statement.now (running c.args.choices.now c.args.run) c.in-For.field-0 c.in-For.variable c.in-For.field-2 c.in-For.from c.in-For.to c.in-For.block c.in-For.is _ _ c.in_ok-turns-in-For.ensures.ty (c.as_slice-in-For.ensures ∙ c.in_ok-turns-in-For.ensures.values) _ c.as_slice-in-For-2.ensures) c.run_turns.ensures.value

pub run_one-returns-in_ok-turns-in-For-clause-wide : goal.run_one-returns-in_ok-turns-in-For-clause-wide
run_one-returns-in_ok-turns-in-For-clause-wide t c =
    told_all _ _ c.run_turns.result (for_met c.args.below c.args.layout.now c.args.statement.now (running c.args.choices.now c.args.run) c.in-For.field-0 c.in-For.variable c.in-For.field-2 c.in-For.from c.in-For.to c.in-For.block c.in-For.is _ _ c.in_ok-turns-in-For.ensures.ty (c.as_slice-in-For.ensures ∙ c.in_ok-turns-in-For.ensures.values) _ c.as_slice-in-For-2.ensures) c.run_turns.ensures.wide

pub run_one-returns-in-Call-clause-value : goal.run_one-returns-in-Call-clause-value
run_one-returns-in-Call-clause-value t c =
    gives_as (ending_of c.args.choices.now) _ _ c.run_call.result (call_is c.args.below c.args.layout.now c.args.statement.now (running c.args.choices.now c.args.run) c.in-Call.place c.in-Call.targets c.in-Call.procedure c.in-Call.arguments c.in-Call.is _ _ c.as_slice-in-Call.ensures c.as_slice-in-Call-2.ensures) c.run_call.ensures.value

pub run_one-returns-in-Call-clause-wide : goal.run_one-returns-in-Call-clause-wide
run_one-returns-in-Call-clause-wide t c =
    told_all _ _ c.run_call.result (call_met_is c.args.below c.args.layout.now c.args.statement.now (running c.args.choices.now c.args.run) c.in-Call.place c.in-Call.targets c.in-Call.procedure c.in-Call.arguments c.in-Call.is _ _ c.as_slice-in-Call.ensures c.as_slice-in-Call-2.ensures) c.run_call.ensures.wide

pub run_one-returns-in-Next-clause-value : goal.run_one-returns-in-Next-clause-value
run_one-returns-in-Next-clause-value t c =
    next_is c.args.below c.args.layout.now c.args.statement.now (running c.args.choices.now c.args.run) c.in-Next.field-0 c.in-Next.field-1 c.in-Next.is

pub run_one-returns-in-Next-clause-wide : goal.run_one-returns-in-Next-clause-wide
run_one-returns-in-Next-clause-wide t c =
    ap first_wide (sym (next_met c.args.below c.args.layout.now c.args.statement.now (running c.args.choices.now c.args.run) c.in-Next.field-0 c.in-Next.field-1 c.in-Next.is))

pub run_block-run_each-requires : goal.run_block-run_each-requires
run_block-run_each-requires t c =
    (omega (arith, c.decreases), tt)

pub run_block-returns-clause-value : goal.run_block-returns-clause-value
run_block-returns-clause-value t c =
    c.in_ok-end-2.ensures c.args.choices.now
    ∙ (λ i. then_run (c.in_ok-end.ensures.value i) (λ q. Goes (in_scope q (keep_locals (c.len-older.ensures i) q.scope))))

pub run_turn-run_each-requires : goal.run_turn-run_each-requires
run_turn-run_each-requires t c =
    (omega (arith, c.decreases), tt)

pub run_turn-returns-in_err-end-clause-wide : goal.run_turn-returns-in_err-end-clause-wide
run_turn-returns-in_err-end-clause-wide t c =
    let told = told_as Ending Ending _ _ c.in_err-end.field-0.0 (ap (run_met_at c.args.below c.args.layout.now c.args.block.now) (c.in_ok-inside.ensures c.args.choices.now)) c.in_err-end.ensures.wide in
    search (rules, told)

pub run_turn-returns-clause-value : goal.run_turn-returns-clause-value
run_turn-returns-clause-value t c =
    c.in_ok-end-2.ensures c.args.choices.now
    ∙ (λ i. then_run ((c.in_ok-end.ensures.value ∙ ap (run_at c.args.below c.args.layout.now c.args.block.now) (c.in_ok-inside.ensures c.args.choices.now)) i) (λ q. Goes (in_scope q (keep_locals (c.len-older.ensures i) q.scope))))

pub run_turn-returns-clause-wide : goal.run_turn-returns-clause-wide
run_turn-returns-clause-wide t c =
    ap (λ q. first_wide (run_met_at c.args.below c.args.layout.now c.args.block.now q)) (sym (c.in_ok-inside.ensures c.args.choices.now)) ∙ c.in_ok-end.ensures.wide

pub run_taken-run_block-requires : goal.run_taken-run_block-requires
run_taken-run_block-requires t c =
    (omega (arith, c.decreases, ap sizes c.in_ok-block.ensures.value, taken_size c.args.layout.now c.args.run.scope c.args.arms.now c.args.otherwise.now), tt)

pub run_taken-returns-in_err-block-clause-wide : goal.run_taken-returns-in_err-block-clause-wide
run_taken-returns-in_err-block-clause-wide t c =
    let told = told_first (List Stmt) Ending (conditions_met c.args.layout.now c.args.run.scope c.args.arms.now) (run_met_at c.args.below c.args.layout.now (taken c.args.layout.now c.args.run.scope c.args.arms.now c.args.otherwise.now) (running c.args.choices.now c.args.run)) c.in_err-block.field-0.0 c.in_err-block.ensures.wide in
    search (rules, told)

pub run_taken-returns-clause-value : goal.run_taken-returns-clause-value
run_taken-returns-clause-value t c =
    gives_as (ending_of c.args.choices.now) _ _ c.run_block.result (ap (λ b. block_at c.args.below c.args.layout.now b (running c.args.choices.now c.args.run)) c.in_ok-block.ensures.value) c.run_block.ensures.value

pub run_taken-returns-clause-wide : goal.run_taken-returns-clause-wide
run_taken-returns-clause-wide t c =
    told_second (conditions_met c.args.layout.now c.args.run.scope c.args.arms.now) (run_met_at c.args.below c.args.layout.now (taken c.args.layout.now c.args.run.scope c.args.arms.now c.args.otherwise.now) (running c.args.choices.now c.args.run)) c.run_block.result c.in_ok-block.ensures.wide (told_all _ _ c.run_block.result (ap (λ b. run_met_at c.args.below c.args.layout.now b (running c.args.choices.now c.args.run)) c.in_ok-block.ensures.value) c.run_block.ensures.wide)

pub run_call-run_procedure-requires : goal.run_call-run_procedure-requires
run_call-run_procedure-requires t c =
    let most = called_size c.args.layout.now c.args.run.scope.path c.in-Some.code.now c.args.name c.in-Some-procedure_of.procedure.now (c.in-Some.ensures ∙ (λ i. module_at (c.system.ensures i) (c.as_slice.ensures i))) (c.in-Some-procedure_of.ensures ∙ ap (first_some (procedure_in c.args.name)) c.as_slice-in-Some.ensures) in
    let within = left_within c.args.below (bodies c.args.layout.now) (sizes c.in-Some-procedure_of.procedure.now.body) most in
    (omega (arith, c.decreases, within), tt)

pub run_call-returns-in-Some-procedure_of-clause-value : goal.run_call-returns-in-Some-procedure_of-clause-value
run_call-returns-in-Some-procedure_of-clause-value t c =
    gives_as (ending_of c.args.choices.now) _ _ c.run_procedure.result (called_is c.args.below c.args.layout.now c.args.place c.args.targets.now c.args.name c.args.arguments.now (running c.args.choices.now c.args.run) c.in-Some.code.now (c.in-Some.ensures ∙ (λ i. module_at (c.system.ensures i) (c.as_slice.ensures i))) (Some c.in-Some-procedure_of.procedure.now) (c.in-Some-procedure_of.ensures ∙ ap (first_some (procedure_in c.args.name)) c.as_slice-in-Some.ensures)) c.run_procedure.ensures.value

pub run_call-returns-in-Some-procedure_of-clause-wide : goal.run_call-returns-in-Some-procedure_of-clause-wide
run_call-returns-in-Some-procedure_of-clause-wide t c =
    told_all _ _ c.run_procedure.result (called_met_is c.args.below c.args.layout.now c.args.place c.args.targets.now c.args.name c.args.arguments.now (running c.args.choices.now c.args.run) c.in-Some.code.now (c.in-Some.ensures ∙ (λ i. module_at (c.system.ensures i) (c.as_slice.ensures i))) (Some c.in-Some-procedure_of.procedure.now) (c.in-Some-procedure_of.ensures ∙ ap (first_some (procedure_in c.args.name)) c.as_slice-in-Some.ensures)) c.run_procedure.ensures.wide

pub run_call-returns-in-None-procedure_of-clause-value : goal.run_call-returns-in-None-procedure_of-clause-value
run_call-returns-in-None-procedure_of-clause-value t c =
    called_is c.args.below c.args.layout.now c.args.place c.args.targets.now c.args.name c.args.arguments.now (running c.args.choices.now c.args.run) c.in-Some.code.now (c.in-Some.ensures ∙ (λ i. module_at (c.system.ensures i) (c.as_slice.ensures i))) None (c.in-None-procedure_of.ensures ∙ ap (first_some (procedure_in c.args.name)) c.as_slice-in-Some.ensures)

pub run_call-returns-in-None-procedure_of-clause-wide : goal.run_call-returns-in-None-procedure_of-clause-wide
run_call-returns-in-None-procedure_of-clause-wide t c =
    ap first_wide (sym (called_met_is c.args.below c.args.layout.now c.args.place c.args.targets.now c.args.name c.args.arguments.now (running c.args.choices.now c.args.run) c.in-Some.code.now (c.in-Some.ensures ∙ (λ i. module_at (c.system.ensures i) (c.as_slice.ensures i))) None (c.in-None-procedure_of.ensures ∙ ap (first_some (procedure_in c.args.name)) c.as_slice-in-Some.ensures)))

pub run_call-returns-in-None-clause-value : goal.run_call-returns-in-None-clause-value
run_call-returns-in-None-clause-value t c =
    no_module c.args.below c.args.layout.now c.args.place c.args.targets.now c.args.name c.args.arguments.now (running c.args.choices.now c.args.run) (c.in-None.ensures ∙ (λ i. module_at (c.system.ensures i) (c.as_slice.ensures i)))

pub run_call-returns-in-None-clause-wide : goal.run_call-returns-in-None-clause-wide
run_call-returns-in-None-clause-wide t c =
    ap first_wide (sym (no_module_met c.args.below c.args.layout.now c.args.place c.args.targets.now c.args.name c.args.arguments.now (running c.args.choices.now c.args.run) (c.in-None.ensures ∙ (λ i. module_at (c.system.ensures i) (c.as_slice.ensures i)))))

pub run_procedure-run_body-ended-requires : goal.run_procedure-run_body-ended-requires
run_procedure-run_body-ended-requires t c =
    (omega (arith, c.decreases, ap (λ code. left_below c.args.below (bodies c.args.layout.now) (sizes code)) c.as_slice-body.ensures), tt)

pub run_procedure-returned-requires : goal.run_procedure-returned-requires
run_procedure-returned-requires t c =
    subst (λ rs. LeavesLocals rs c.in_ok-caller.ended) (sym c.as_slice-results.ensures) (leaves_locals c.args.below c.args.layout.now c.args.place c.args.targets.now c.args.arguments.now c.args.code.now c.args.procedure.now (running c.args.choices.now c.args.run) c.in_ok-caller.ended c.args.choices.now (body_value c.args.below c.args.layout.now c.args.place c.args.targets.now c.args.arguments.now c.args.code.now c.args.procedure.now (running c.args.choices.now c.args.run) c.in_ok-entry.entry.begun c.args.choices.now c.in_ok-entry.ensures.value _ c.as_slice-body.ensures c.run_body-ended.result c.in_ok-caller.ended c.in_ok-caller.ensures.1 c.run_body-ended.ensures.value))

pub run_procedure-returns-in_err-entry-clause-wide : goal.run_procedure-returns-in_err-entry-clause-wide
run_procedure-returns-in_err-entry-clause-wide t c =
    let first = told_first Entry Ending (entry_met c.args.below c.args.layout.now c.args.place c.args.targets.now c.args.arguments.now c.args.code.now c.args.procedure.now (running c.args.choices.now c.args.run)) ((body_met c.args.below c.args.layout.now c.args.place c.args.targets.now c.args.arguments.now c.args.code.now c.args.procedure.now (running c.args.choices.now c.args.run)) ++ (met_after (ended c.args.below c.args.layout.now c.args.place c.args.targets.now c.args.arguments.now c.args.code.now c.args.procedure.now (running c.args.choices.now c.args.run)) (handed_met c.args.below c.args.layout.now c.args.place c.args.targets.now c.args.arguments.now c.args.code.now c.args.procedure.now (running c.args.choices.now c.args.run) c.args.run.scope.locals))) c.in_err-entry.field-0.0 c.in_err-entry.ensures.wide in
    let told = told_as Ending Ending _ _ c.in_err-entry.field-0.0 (called_met c.args.below c.args.layout.now c.args.place c.args.targets.now c.args.arguments.now c.args.code.now c.args.procedure.now (running c.args.choices.now c.args.run) c.args.run.scope.locals refl) first in
    search (rules, told)

pub run_procedure-returns-in_err-caller-clause-wide : goal.run_procedure-returns-in_err-caller-clause-wide
run_procedure-returns-in_err-caller-clause-wide t c =
    let there = subst (TellsWide {A = Ending} _) c.in_err-caller.ensures c.run_body-ended.ensures.wide in
    let here = told_as Ending Ending _ (body_met c.args.below c.args.layout.now c.args.place c.args.targets.now c.args.arguments.now c.args.code.now c.args.procedure.now (running c.args.choices.now c.args.run)) _ (body_is_met c.args.below c.args.layout.now c.args.place c.args.targets.now c.args.arguments.now c.args.code.now c.args.procedure.now (running c.args.choices.now c.args.run) c.in_ok-entry.entry.begun c.args.choices.now c.in_ok-entry.ensures.value _ c.as_slice-body.ensures) there in
    let second = told_second {A = Ending} (entry_met c.args.below c.args.layout.now c.args.place c.args.targets.now c.args.arguments.now c.args.code.now c.args.procedure.now (running c.args.choices.now c.args.run)) ((body_met c.args.below c.args.layout.now c.args.place c.args.targets.now c.args.arguments.now c.args.code.now c.args.procedure.now (running c.args.choices.now c.args.run)) ++ (met_after (ended c.args.below c.args.layout.now c.args.place c.args.targets.now c.args.arguments.now c.args.code.now c.args.procedure.now (running c.args.choices.now c.args.run)) (handed_met c.args.below c.args.layout.now c.args.place c.args.targets.now c.args.arguments.now c.args.code.now c.args.procedure.now (running c.args.choices.now c.args.run) c.args.run.scope.locals))) (Err _) c.in_ok-entry.ensures.wide (told_first Ending Ending (body_met c.args.below c.args.layout.now c.args.place c.args.targets.now c.args.arguments.now c.args.code.now c.args.procedure.now (running c.args.choices.now c.args.run)) (met_after (ended c.args.below c.args.layout.now c.args.place c.args.targets.now c.args.arguments.now c.args.code.now c.args.procedure.now (running c.args.choices.now c.args.run)) (handed_met c.args.below c.args.layout.now c.args.place c.args.targets.now c.args.arguments.now c.args.code.now c.args.procedure.now (running c.args.choices.now c.args.run) c.args.run.scope.locals)) _ here) in
    let told = told_as Ending Ending _ _ _ (called_met c.args.below c.args.layout.now c.args.place c.args.targets.now c.args.arguments.now c.args.code.now c.args.procedure.now (running c.args.choices.now c.args.run) c.args.run.scope.locals refl) second in
    search (rules, told)

pub run_procedure-returns-clause-value : goal.run_procedure-returns-clause-value
run_procedure-returns-clause-value t c =
    gives_as (ending_of c.args.choices.now) _ _ c.returned.result
    ((λ i. then_run ((body_value c.args.below c.args.layout.now c.args.place c.args.targets.now c.args.arguments.now c.args.code.now c.args.procedure.now (running c.args.choices.now c.args.run) c.in_ok-entry.entry.begun c.args.choices.now c.in_ok-entry.ensures.value _ c.as_slice-body.ensures c.run_body-ended.result c.in_ok-caller.ended c.in_ok-caller.ensures.1 c.run_body-ended.ensures.value) i) (λ q. Goes (in_scope q (write_all c.args.layout.now c.args.targets.now (results c.args.layout.now q.scope (c.as_slice-results.ensures i)) (with_locals q.scope c.in_ok-caller.caller)))))
    ∙ called_value c.args.below c.args.layout.now c.args.place c.args.targets.now c.args.arguments.now c.args.code.now c.args.procedure.now (running c.args.choices.now c.args.run) c.in_ok-caller.caller (c.in_ok-caller.ensures.0 ∙ c.in_ok-entry.ensures.caller))
    (at_choices (λ cs. then_run (ending_of cs c.in_ok-caller.ended) (λ q. Goes (in_scope q (write_all c.args.layout.now c.args.targets.now (results c.args.layout.now q.scope c.as_slice-results.result.now) (with_locals q.scope c.in_ok-caller.caller))))) c.args.choices.now c.returned.result c.returned.ensures.value)

pub run_procedure-returns-clause-wide : goal.run_procedure-returns-clause-wide
run_procedure-returns-clause-wide t c =
    let none = subst (TellsWide {A = Ending} _) c.in_ok-caller.ensures.1 c.run_body-ended.ensures.wide in
    told_all _ _ c.returned.result (called_met c.args.below c.args.layout.now c.args.place c.args.targets.now c.args.arguments.now c.args.code.now c.args.procedure.now (running c.args.choices.now c.args.run) c.in_ok-caller.caller (c.in_ok-caller.ensures.0 ∙ c.in_ok-entry.ensures.caller))
    (told_second (entry_met c.args.below c.args.layout.now c.args.place c.args.targets.now c.args.arguments.now c.args.code.now c.args.procedure.now (running c.args.choices.now c.args.run)) ((body_met c.args.below c.args.layout.now c.args.place c.args.targets.now c.args.arguments.now c.args.code.now c.args.procedure.now (running c.args.choices.now c.args.run)) ++ met_after (ended c.args.below c.args.layout.now c.args.place c.args.targets.now c.args.arguments.now c.args.code.now c.args.procedure.now (running c.args.choices.now c.args.run)) (handed_met c.args.below c.args.layout.now c.args.place c.args.targets.now c.args.arguments.now c.args.code.now c.args.procedure.now (running c.args.choices.now c.args.run) c.in_ok-caller.caller)) c.returned.result c.in_ok-entry.ensures.wide
    (told_second (body_met c.args.below c.args.layout.now c.args.place c.args.targets.now c.args.arguments.now c.args.code.now c.args.procedure.now (running c.args.choices.now c.args.run)) (met_after (ended c.args.below c.args.layout.now c.args.place c.args.targets.now c.args.arguments.now c.args.code.now c.args.procedure.now (running c.args.choices.now c.args.run)) (handed_met c.args.below c.args.layout.now c.args.place c.args.targets.now c.args.arguments.now c.args.code.now c.args.procedure.now (running c.args.choices.now c.args.run) c.in_ok-caller.caller)) c.returned.result (sym (ap first_wide (body_is_met c.args.below c.args.layout.now c.args.place c.args.targets.now c.args.arguments.now c.args.code.now c.args.procedure.now (running c.args.choices.now c.args.run) c.in_ok-entry.entry.begun c.args.choices.now c.in_ok-entry.ensures.value _ c.as_slice-body.ensures)) ∙ none)
    (told_all _ _ c.returned.result
    (λ i. met_after ((body_value c.args.below c.args.layout.now c.args.place c.args.targets.now c.args.arguments.now c.args.code.now c.args.procedure.now (running c.args.choices.now c.args.run) c.in_ok-entry.entry.begun c.args.choices.now c.in_ok-entry.ensures.value _ c.as_slice-body.ensures c.run_body-ended.result c.in_ok-caller.ended c.in_ok-caller.ensures.1 c.run_body-ended.ensures.value) i) (λ q. targets_met c.args.layout.now c.args.targets.now (results c.args.layout.now q.scope (c.as_slice-results.ensures i)) (with_locals q.scope c.in_ok-caller.caller)))
    (c.returned.ensures.wide c.args.choices.now))))

pub run_body-run_each-requires : goal.run_body-run_each-requires
run_body-run_each-requires t c =
    let some : c.args.below ≡ 0 → ⊥ = search rules in
    (omega (arith, c.decreases, below_left c.args.below (bodies c.args.layout.now) (sizes c.args.body.now) some), tt)

pub run_body-returns-then-below-eq0-clause-value : goal.run_body-returns-then-below-eq0-clause-value
run_body-returns-then-below-eq0-clause-value t c =
    let none : c.args.below ≡ 0 = search rules in
    sym (no_body c.args.below c.args.layout.now c.args.body.now (running c.args.choices.now c.in-Goes.run') none) ∙ behind c.args.choices.now c.args.begun _ (run_through c.args.below c.args.layout.now c.args.body.now) c.in-Goes.is

pub run_body-returns-then-below-eq0-clause-wide : goal.run_body-returns-then-below-eq0-clause-wide
run_body-returns-then-below-eq0-clause-wide t c =
    let none : c.args.below ≡ 0 = search rules in
    ap first_wide (sym (met_behind c.args.choices.now c.args.begun _ (run_met_through c.args.below c.args.layout.now c.args.body.now) c.in-Goes.is) ∙ none_met c.args.below c.args.layout.now c.args.body.now (running c.args.choices.now c.in-Goes.run') none)

pub run_body-returns-else-below-eq0-clause-value : goal.run_body-returns-else-below-eq0-clause-value
run_body-returns-else-below-eq0-clause-value t c =
    let some : c.args.below ≡ 0 → ⊥ = search rules in
    gives_as (ending_of c.args.choices.now) _ _ c.run_each.result (body_runs c.args.below c.args.layout.now c.args.body.now (running c.args.choices.now c.in-Goes.run') some ∙ behind c.args.choices.now c.args.begun _ (run_through c.args.below c.args.layout.now c.args.body.now) c.in-Goes.is) c.run_each.ensures.value

pub run_body-returns-else-below-eq0-clause-wide : goal.run_body-returns-else-below-eq0-clause-wide
run_body-returns-else-below-eq0-clause-wide t c =
    let some : c.args.below ≡ 0 → ⊥ = search rules in
    told_all _ _ c.run_each.result (body_meets c.args.below c.args.layout.now c.args.body.now (running c.args.choices.now c.in-Goes.run') some ∙ met_behind c.args.choices.now c.args.begun _ (run_met_through c.args.below c.args.layout.now c.args.body.now) c.in-Goes.is) c.run_each.ensures.wide

pub run_body-returns-in_default-clause-value : goal.run_body-returns-in_default-clause-value
run_body-returns-in_default-clause-value t c =
    sym (stays c.args.choices.now c.args.begun (run_through c.args.below c.args.layout.now c.args.body.now) c.in_default.not-Goes)

pub run_body-returns-in_default-clause-wide : goal.run_body-returns-in_default-clause-wide
run_body-returns-in_default-clause-wide t c =
    ap first_wide (meets_none c.args.choices.now c.args.begun (run_met_through c.args.below c.args.layout.now c.args.body.now) c.in_default.not-Goes)
