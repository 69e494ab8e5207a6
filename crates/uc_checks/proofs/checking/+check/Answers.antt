use Rattle.std.proofs.Common.{◌≡◌, List, [], ◌∷◌, ◌++◌, map, Option, ap, ◌∙◌, sym, rules, arith}
use Rattle.std.specs.List.{flat_map}
use Rattle.uc_syntax.specs.declared.statement.Stmt.{Stmt}
use Rattle.uc_meaning.specs.Lookup.{module_at, next_in}
use Rattle.uc_meaning.specs.Expressions.{is_true, value, at_path}
use Rattle.uc_meaning.specs.Code.{taken}
use Rattle.uc_meaning.specs.Steps.{Kept, kept_if, check_targets, with_local}
use Rattle.uc_meaning.specs.OverflowsRuns.{conditions_met}
use Rattle.uc_operators.specs.Overflows.{first_wide}
use Rattle.uc_readings.specs.Scopes.{scope_in}
use Rattle.uc_evaluator.proofs.Told.{told_first, told_second, told_as, told_all, gives_as}
use Rattle.uc_evaluator.proofs.Sizes.{part_size}
use Rattle.uc_runs.proofs.Sizes.{size, sizes, arms_size, block_size, if_size, case_size, for_size, taken_size}
use Rattle.uc_runs.proofs.Levels.{below_left, left_within}
use Rattle.uc_checks.specs.declared.seen.Seen.{Seen}
use Rattle.uc_checks.specs.Watches.{watched, check_of}
use Rattle.uc_checks.specs.Levels.{check_at, check_met_at, asked_at, asked_met_at, turns_at, turns_met_at, turn_at}
use Rattle.uc_checks.proofs.Rounds.{asks_end, asks_more, asks_out, met_end, met_told, met_more, met_out}
use Rattle.uc_checks.proofs.Forms.{code_none, code_next, met_none, met_next, turns_none, turns_next, turn_met, turns_met_none, turns_met_next, decls_next, decls_met_next}
use Rattle.uc_checks.proofs.Statements.{local_is, local_met, skip_is, skip_met, block_is, block_met, assert_is, assert_met, assume_is, assume_met, havoc_is, havoc_met, assign_is, assign_met, if_is, if_met, case_is, case_met, for_is, for_met, call_is, call_met_is, next_is, next_met, at_choices}
use Rattle.uc_checks.proofs.Blocks.{blocks, decl_size, decls_size, stepped_size, next_size, no_next}
use Rattle.uc_checks.proofs.Scopes.{too_deep, too_deep_met, instance_gives, instance_meets}
use Rattle.uc_checks.proofs.checking.+check.Goals as goal

pub check_each-check_one-requires : goal.check_each-check_one-requires
check_each-check_one-requires t c =
    let part = part_size size c.args.code.now c.loop-statement.statement-index c.statement-item.result c.statement-item.result c.loop-statement-test.true c.statement-item.is in
    (omega (arith, c.decreases, part), tt)

pub check_each-returns-in_err-asked-clause-wide : goal.check_each-returns-in_err-asked-clause-wide
check_each-returns-in_err-asked-clause-wide t c =
    let told = met_told (asked_at c.args.below c.args.layout.now) (check_at c.args.below c.args.layout.now) (code_none c.args.below c.args.layout.now) (code_next c.args.below c.args.layout.now) (asked_met_at c.args.below c.args.layout.now) (check_met_at c.args.below c.args.layout.now) (met_none c.args.below c.args.layout.now) (met_next c.args.below c.args.layout.now) (scope_in c.args.scope.now) c.args.choices.now c.args.code.now c.loop-statement.statement-index c.loop-statement.here c.statement-item.result c.statement-item.result c.loop-statement-test.true c.statement-item.is (Option Seen) (Option Seen) _ c.in_err-asked.field-0.0 c.loop-statement.invariant.wide c.in_err-asked.ensures.wide in
    search (rules, told)

pub check_each-loop-statement-preserved : goal.check_each-loop-statement-preserved
check_each-loop-statement-preserved t c =
    record {
      value = asks_more (asked_at c.args.below c.args.layout.now) (check_at c.args.below c.args.layout.now) (code_none c.args.below c.args.layout.now) (code_next c.args.below c.args.layout.now) (scope_in c.args.scope.now) c.args.choices.now c.args.code.now c.loop-statement.statement-index c.loop-statement.here c.statement-item.result c.statement-item.result c.loop-statement-test.true c.statement-item.is c.in_ok-asked.asked c.in_ok-asked.ensures.value c.in-Some.next _ c.in-Some.is c.loop-statement.invariant.value;
      wide = met_more (asked_at c.args.below c.args.layout.now) (check_at c.args.below c.args.layout.now) (code_none c.args.below c.args.layout.now) (code_next c.args.below c.args.layout.now) (asked_met_at c.args.below c.args.layout.now) (check_met_at c.args.below c.args.layout.now) (met_none c.args.below c.args.layout.now) (met_next c.args.below c.args.layout.now) (scope_in c.args.scope.now) c.args.choices.now c.args.code.now c.loop-statement.statement-index c.loop-statement.here c.statement-item.result c.statement-item.result c.loop-statement-test.true c.statement-item.is c.in_ok-asked.asked c.in_ok-asked.ensures.value c.in_ok-asked.ensures.wide c.in-Some.next _ c.in-Some.is c.loop-statement.invariant.wide;
    }

pub check_each-returns-in-None-clause-value : goal.check_each-returns-in-None-clause-value
check_each-returns-in-None-clause-value t c =
    asks_out (asked_at c.args.below c.args.layout.now) (check_at c.args.below c.args.layout.now) (code_none c.args.below c.args.layout.now) (code_next c.args.below c.args.layout.now) (scope_in c.args.scope.now) c.args.choices.now c.args.code.now c.loop-statement.statement-index c.loop-statement.here c.statement-item.result c.statement-item.result c.loop-statement-test.true c.statement-item.is c.in_ok-asked.asked c.in_ok-asked.ensures.value _ c.in-None.is c.loop-statement.invariant.value

pub check_each-returns-in-None-clause-wide : goal.check_each-returns-in-None-clause-wide
check_each-returns-in-None-clause-wide t c =
    met_out (asked_at c.args.below c.args.layout.now) (check_at c.args.below c.args.layout.now) (code_none c.args.below c.args.layout.now) (code_next c.args.below c.args.layout.now) (asked_met_at c.args.below c.args.layout.now) (check_met_at c.args.below c.args.layout.now) (met_none c.args.below c.args.layout.now) (met_next c.args.below c.args.layout.now) (scope_in c.args.scope.now) c.args.choices.now c.args.code.now c.loop-statement.statement-index c.loop-statement.here c.statement-item.result c.statement-item.result c.loop-statement-test.true c.statement-item.is c.in_ok-asked.asked c.in_ok-asked.ensures.value c.in_ok-asked.ensures.wide _ c.in-None.is c.loop-statement.invariant.wide

pub check_each-returns-clause-value : goal.check_each-returns-clause-value
check_each-returns-clause-value t c = asks_end (asked_at c.args.below c.args.layout.now) (check_at c.args.below c.args.layout.now) (code_none c.args.below c.args.layout.now) (code_next c.args.below c.args.layout.now) (scope_in c.args.scope.now) c.args.choices.now c.args.code.now c.loop-statement.statement-index c.loop-statement.here _ c.loop-statement-test.false c.loop-statement.invariant.value

pub check_each-returns-clause-wide : goal.check_each-returns-clause-wide
check_each-returns-clause-wide t c = met_end (asked_at c.args.below c.args.layout.now) (check_at c.args.below c.args.layout.now) (code_none c.args.below c.args.layout.now) (code_next c.args.below c.args.layout.now) (asked_met_at c.args.below c.args.layout.now) (check_met_at c.args.below c.args.layout.now) (met_none c.args.below c.args.layout.now) (met_next c.args.below c.args.layout.now) (scope_in c.args.scope.now) c.args.choices.now c.args.code.now c.loop-statement.statement-index c.loop-statement.here _ c.loop-statement-test.false c.loop-statement.invariant.wide

pub check_turns-check_turn-requires : goal.check_turns-check_turn-requires
check_turns-check_turn-requires t c = (omega (arith, c.decreases), tt)

pub check_turns-returns-in_err-asked-clause-wide : goal.check_turns-returns-in_err-asked-clause-wide
check_turns-returns-in_err-asked-clause-wide t c =
    let here = told_as (Option Seen) (Option Seen) _ _ c.in_err-asked.field-0.0 (ap (λ l. check_met_at c.args.below c.args.layout.now c.args.block.now (with_local l.name l.ty l.value (watched (scope_in c.args.scope.now) c.args.choices.now c.loop-value.here))) c.in_ok-local.ensures) c.in_err-asked.ensures.wide in
    let told = met_told (turn_at c.args.below c.args.layout.now c.args.variable c.args.ty.now c.args.block.now) (turns_at c.args.below c.args.layout.now c.args.variable c.args.ty.now c.args.block.now) (turns_none c.args.below c.args.layout.now c.args.variable c.args.ty.now c.args.block.now) (turns_next c.args.below c.args.layout.now c.args.variable c.args.ty.now c.args.block.now) (turn_met c.args.below c.args.layout.now c.args.variable c.args.ty.now c.args.block.now) (turns_met_at c.args.below c.args.layout.now c.args.variable c.args.ty.now c.args.block.now) (turns_met_none c.args.below c.args.layout.now c.args.variable c.args.ty.now c.args.block.now) (turns_met_next c.args.below c.args.layout.now c.args.variable c.args.ty.now c.args.block.now) (scope_in c.args.scope.now) c.args.choices.now c.args.values.now c.loop-value.value-index c.loop-value.here c.value-item.result c.value-item.result c.loop-value-test.true c.value-item.is (Option Seen) (Option Seen) (first_wide (turns_met_at c.args.below c.args.layout.now c.args.variable c.args.ty.now c.args.block.now c.args.values.now (watched (scope_in c.args.scope.now) c.args.choices.now c.args.seen))) c.in_err-asked.field-0.0 c.loop-value.invariant.wide here in
    search (rules, told)

pub check_turns-loop-value-preserved : goal.check_turns-loop-value-preserved
check_turns-loop-value-preserved t c =
    let asked = c.in_ok-asked.ensures.value ∙ (λ k. turn_at c.args.below c.args.layout.now (c.in_ok-local.ensures k).name (c.in_ok-local.ensures k).ty c.args.block.now (c.in_ok-local.ensures k).value (watched (scope_in c.args.scope.now) c.args.choices.now c.loop-value.here)) in
    let fine = ap first_wide (sym (ap (λ l. check_met_at c.args.below c.args.layout.now c.args.block.now (with_local l.name l.ty l.value (watched (scope_in c.args.scope.now) c.args.choices.now c.loop-value.here))) c.in_ok-local.ensures)) ∙ c.in_ok-asked.ensures.wide in
    record {
      value = asks_more (turn_at c.args.below c.args.layout.now c.args.variable c.args.ty.now c.args.block.now) (turns_at c.args.below c.args.layout.now c.args.variable c.args.ty.now c.args.block.now) (turns_none c.args.below c.args.layout.now c.args.variable c.args.ty.now c.args.block.now) (turns_next c.args.below c.args.layout.now c.args.variable c.args.ty.now c.args.block.now) (scope_in c.args.scope.now) c.args.choices.now c.args.values.now c.loop-value.value-index c.loop-value.here c.value-item.result c.value-item.result c.loop-value-test.true c.value-item.is c.in_ok-asked.asked asked c.in-Some.next (turns_at c.args.below c.args.layout.now c.args.variable c.args.ty.now c.args.block.now c.args.values.now (watched (scope_in c.args.scope.now) c.args.choices.now c.args.seen)) c.in-Some.is c.loop-value.invariant.value;
      wide = met_more (turn_at c.args.below c.args.layout.now c.args.variable c.args.ty.now c.args.block.now) (turns_at c.args.below c.args.layout.now c.args.variable c.args.ty.now c.args.block.now) (turns_none c.args.below c.args.layout.now c.args.variable c.args.ty.now c.args.block.now) (turns_next c.args.below c.args.layout.now c.args.variable c.args.ty.now c.args.block.now) (turn_met c.args.below c.args.layout.now c.args.variable c.args.ty.now c.args.block.now) (turns_met_at c.args.below c.args.layout.now c.args.variable c.args.ty.now c.args.block.now) (turns_met_none c.args.below c.args.layout.now c.args.variable c.args.ty.now c.args.block.now) (turns_met_next c.args.below c.args.layout.now c.args.variable c.args.ty.now c.args.block.now) (scope_in c.args.scope.now) c.args.choices.now c.args.values.now c.loop-value.value-index c.loop-value.here c.value-item.result c.value-item.result c.loop-value-test.true c.value-item.is c.in_ok-asked.asked asked fine c.in-Some.next (first_wide (turns_met_at c.args.below c.args.layout.now c.args.variable c.args.ty.now c.args.block.now c.args.values.now (watched (scope_in c.args.scope.now) c.args.choices.now c.args.seen))) c.in-Some.is c.loop-value.invariant.wide;
    }

pub check_turns-returns-in-None-clause-value : goal.check_turns-returns-in-None-clause-value
check_turns-returns-in-None-clause-value t c =
    let asked = c.in_ok-asked.ensures.value ∙ (λ k. turn_at c.args.below c.args.layout.now (c.in_ok-local.ensures k).name (c.in_ok-local.ensures k).ty c.args.block.now (c.in_ok-local.ensures k).value (watched (scope_in c.args.scope.now) c.args.choices.now c.loop-value.here)) in
    asks_out (turn_at c.args.below c.args.layout.now c.args.variable c.args.ty.now c.args.block.now) (turns_at c.args.below c.args.layout.now c.args.variable c.args.ty.now c.args.block.now) (turns_none c.args.below c.args.layout.now c.args.variable c.args.ty.now c.args.block.now) (turns_next c.args.below c.args.layout.now c.args.variable c.args.ty.now c.args.block.now) (scope_in c.args.scope.now) c.args.choices.now c.args.values.now c.loop-value.value-index c.loop-value.here c.value-item.result c.value-item.result c.loop-value-test.true c.value-item.is c.in_ok-asked.asked asked _ c.in-None.is c.loop-value.invariant.value

pub check_turns-returns-in-None-clause-wide : goal.check_turns-returns-in-None-clause-wide
check_turns-returns-in-None-clause-wide t c =
    let asked = c.in_ok-asked.ensures.value ∙ (λ k. turn_at c.args.below c.args.layout.now (c.in_ok-local.ensures k).name (c.in_ok-local.ensures k).ty c.args.block.now (c.in_ok-local.ensures k).value (watched (scope_in c.args.scope.now) c.args.choices.now c.loop-value.here)) in
    let fine = ap first_wide (sym (ap (λ l. check_met_at c.args.below c.args.layout.now c.args.block.now (with_local l.name l.ty l.value (watched (scope_in c.args.scope.now) c.args.choices.now c.loop-value.here))) c.in_ok-local.ensures)) ∙ c.in_ok-asked.ensures.wide in
    met_out (turn_at c.args.below c.args.layout.now c.args.variable c.args.ty.now c.args.block.now) (turns_at c.args.below c.args.layout.now c.args.variable c.args.ty.now c.args.block.now) (turns_none c.args.below c.args.layout.now c.args.variable c.args.ty.now c.args.block.now) (turns_next c.args.below c.args.layout.now c.args.variable c.args.ty.now c.args.block.now) (turn_met c.args.below c.args.layout.now c.args.variable c.args.ty.now c.args.block.now) (turns_met_at c.args.below c.args.layout.now c.args.variable c.args.ty.now c.args.block.now) (turns_met_none c.args.below c.args.layout.now c.args.variable c.args.ty.now c.args.block.now) (turns_met_next c.args.below c.args.layout.now c.args.variable c.args.ty.now c.args.block.now) (scope_in c.args.scope.now) c.args.choices.now c.args.values.now c.loop-value.value-index c.loop-value.here c.value-item.result c.value-item.result c.loop-value-test.true c.value-item.is c.in_ok-asked.asked asked fine _ c.in-None.is c.loop-value.invariant.wide

pub check_turns-returns-clause-value : goal.check_turns-returns-clause-value
check_turns-returns-clause-value t c = asks_end (turn_at c.args.below c.args.layout.now c.args.variable c.args.ty.now c.args.block.now) (turns_at c.args.below c.args.layout.now c.args.variable c.args.ty.now c.args.block.now) (turns_none c.args.below c.args.layout.now c.args.variable c.args.ty.now c.args.block.now) (turns_next c.args.below c.args.layout.now c.args.variable c.args.ty.now c.args.block.now) (scope_in c.args.scope.now) c.args.choices.now c.args.values.now c.loop-value.value-index c.loop-value.here _ c.loop-value-test.false c.loop-value.invariant.value

pub check_turns-returns-clause-wide : goal.check_turns-returns-clause-wide
check_turns-returns-clause-wide t c = met_end (turn_at c.args.below c.args.layout.now c.args.variable c.args.ty.now c.args.block.now) (turns_at c.args.below c.args.layout.now c.args.variable c.args.ty.now c.args.block.now) (turns_none c.args.below c.args.layout.now c.args.variable c.args.ty.now c.args.block.now) (turns_next c.args.below c.args.layout.now c.args.variable c.args.ty.now c.args.block.now) (turn_met c.args.below c.args.layout.now c.args.variable c.args.ty.now c.args.block.now) (turns_met_at c.args.below c.args.layout.now c.args.variable c.args.ty.now c.args.block.now) (turns_met_none c.args.below c.args.layout.now c.args.variable c.args.ty.now c.args.block.now) (turns_met_next c.args.below c.args.layout.now c.args.variable c.args.ty.now c.args.block.now) (scope_in c.args.scope.now) c.args.choices.now c.args.values.now c.loop-value.value-index c.loop-value.here _ c.loop-value-test.false c.loop-value.invariant.wide

pub check_decls-check_decl-requires : goal.check_decls-check_decl-requires
check_decls-check_decl-requires t c =
    let part = part_size decl_size c.args.decls.now c.loop-decl.decl-index c.decl-item.result c.decl-item.result c.loop-decl-test.true c.decl-item.is in
    (omega (arith, c.decreases, part), tt)

pub check_decls-returns-in_err-asked-clause-wide : goal.check_decls-returns-in_err-asked-clause-wide
check_decls-returns-in_err-asked-clause-wide t c =
    let told = met_told (λ d. check_at c.args.below c.args.layout.now (next_in d)) (λ ds. check_at c.args.below c.args.layout.now (flat_map next_in ds)) (code_none c.args.below c.args.layout.now) (decls_next c.args.below c.args.layout.now) (λ d. check_met_at c.args.below c.args.layout.now (next_in d)) (λ ds. check_met_at c.args.below c.args.layout.now (flat_map next_in ds)) (met_none c.args.below c.args.layout.now) (decls_met_next c.args.below c.args.layout.now) (scope_in c.args.scope.now) c.args.choices.now c.args.decls.now c.loop-decl.decl-index c.loop-decl.here c.decl-item.result c.decl-item.result c.loop-decl-test.true c.decl-item.is (Option Seen) (Option Seen) _ c.in_err-asked.field-0.0 c.loop-decl.invariant.wide c.in_err-asked.ensures.wide in
    search (rules, told)

pub check_decls-loop-decl-preserved : goal.check_decls-loop-decl-preserved
check_decls-loop-decl-preserved t c =
    record {
      value = asks_more (λ d. check_at c.args.below c.args.layout.now (next_in d)) (λ ds. check_at c.args.below c.args.layout.now (flat_map next_in ds)) (code_none c.args.below c.args.layout.now) (decls_next c.args.below c.args.layout.now) (scope_in c.args.scope.now) c.args.choices.now c.args.decls.now c.loop-decl.decl-index c.loop-decl.here c.decl-item.result c.decl-item.result c.loop-decl-test.true c.decl-item.is c.in_ok-asked.asked c.in_ok-asked.ensures.value c.in-Some.next _ c.in-Some.is c.loop-decl.invariant.value;
      wide = met_more (λ d. check_at c.args.below c.args.layout.now (next_in d)) (λ ds. check_at c.args.below c.args.layout.now (flat_map next_in ds)) (code_none c.args.below c.args.layout.now) (decls_next c.args.below c.args.layout.now) (λ d. check_met_at c.args.below c.args.layout.now (next_in d)) (λ ds. check_met_at c.args.below c.args.layout.now (flat_map next_in ds)) (met_none c.args.below c.args.layout.now) (decls_met_next c.args.below c.args.layout.now) (scope_in c.args.scope.now) c.args.choices.now c.args.decls.now c.loop-decl.decl-index c.loop-decl.here c.decl-item.result c.decl-item.result c.loop-decl-test.true c.decl-item.is c.in_ok-asked.asked c.in_ok-asked.ensures.value c.in_ok-asked.ensures.wide c.in-Some.next _ c.in-Some.is c.loop-decl.invariant.wide;
    }

pub check_decls-returns-in-None-clause-value : goal.check_decls-returns-in-None-clause-value
check_decls-returns-in-None-clause-value t c =
    asks_out (λ d. check_at c.args.below c.args.layout.now (next_in d)) (λ ds. check_at c.args.below c.args.layout.now (flat_map next_in ds)) (code_none c.args.below c.args.layout.now) (decls_next c.args.below c.args.layout.now) (scope_in c.args.scope.now) c.args.choices.now c.args.decls.now c.loop-decl.decl-index c.loop-decl.here c.decl-item.result c.decl-item.result c.loop-decl-test.true c.decl-item.is c.in_ok-asked.asked c.in_ok-asked.ensures.value _ c.in-None.is c.loop-decl.invariant.value

pub check_decls-returns-in-None-clause-wide : goal.check_decls-returns-in-None-clause-wide
check_decls-returns-in-None-clause-wide t c =
    met_out (λ d. check_at c.args.below c.args.layout.now (next_in d)) (λ ds. check_at c.args.below c.args.layout.now (flat_map next_in ds)) (code_none c.args.below c.args.layout.now) (decls_next c.args.below c.args.layout.now) (λ d. check_met_at c.args.below c.args.layout.now (next_in d)) (λ ds. check_met_at c.args.below c.args.layout.now (flat_map next_in ds)) (met_none c.args.below c.args.layout.now) (decls_met_next c.args.below c.args.layout.now) (scope_in c.args.scope.now) c.args.choices.now c.args.decls.now c.loop-decl.decl-index c.loop-decl.here c.decl-item.result c.decl-item.result c.loop-decl-test.true c.decl-item.is c.in_ok-asked.asked c.in_ok-asked.ensures.value c.in_ok-asked.ensures.wide _ c.in-None.is c.loop-decl.invariant.wide

pub check_decls-returns-clause-value : goal.check_decls-returns-clause-value
check_decls-returns-clause-value t c = asks_end (λ d. check_at c.args.below c.args.layout.now (next_in d)) (λ ds. check_at c.args.below c.args.layout.now (flat_map next_in ds)) (code_none c.args.below c.args.layout.now) (decls_next c.args.below c.args.layout.now) (scope_in c.args.scope.now) c.args.choices.now c.args.decls.now c.loop-decl.decl-index c.loop-decl.here _ c.loop-decl-test.false c.loop-decl.invariant.value

pub check_decls-returns-clause-wide : goal.check_decls-returns-clause-wide
check_decls-returns-clause-wide t c = met_end (λ d. check_at c.args.below c.args.layout.now (next_in d)) (λ ds. check_at c.args.below c.args.layout.now (flat_map next_in ds)) (code_none c.args.below c.args.layout.now) (decls_next c.args.below c.args.layout.now) (λ d. check_met_at c.args.below c.args.layout.now (next_in d)) (λ ds. check_met_at c.args.below c.args.layout.now (flat_map next_in ds)) (met_none c.args.below c.args.layout.now) (decls_met_next c.args.below c.args.layout.now) (scope_in c.args.scope.now) c.args.choices.now c.args.decls.now c.loop-decl.decl-index c.loop-decl.here _ c.loop-decl-test.false c.loop-decl.invariant.wide

pub check_one-check_each-requires : goal.check_one-check_each-requires
check_one-check_each-requires t c =
    (omega (arith, c.decreases, ap size c.in-Block.is, block_size c.in-Block.field-0 c.in-Block.block, ap sizes c.as_slice-block.ensures), tt)

pub check_one-check_taken-requires : goal.check_one-check_taken-requires
check_one-check_taken-requires t c =
    (omega (arith, c.decreases, ap size c.in-If.is, if_size c.in-If.field-0 c.in-If.arms c.in-If.otherwise, ap (λ xs. arms_size xs c.in-If.otherwise) c.as_slice-arms.ensures), tt)

pub check_one-check_taken-requires-in-Case : goal.check_one-check_taken-requires-in-Case
check_one-check_taken-requires-in-Case t c =
    (omega (arith, c.decreases, ap size c.in-Case.is, case_size c.in-Case.field-0 c.in-Case.arms c.in-Case.otherwise, ap (λ xs. arms_size xs c.in-Case.otherwise) c.as_slice-arms-in-Case.ensures), tt)

pub check_one-check_turns-requires : goal.check_one-check_turns-requires
check_one-check_turns-requires t c =
    (omega (arith, c.decreases, ap size c.in-For.is, for_size c.in-For.field-0 c.in-For.variable c.in-For.field-2 c.in-For.from c.in-For.to c.in-For.block, ap sizes c.as_slice-in-For-2.ensures), tt)

pub check_one-check_instance-requires : goal.check_one-check_instance-requires
check_one-check_instance-requires t c =
    (omega (arith, c.decreases, ap size c.in-Next.is, next_size c.in-Next.field-0 c.in-Next.instance), tt)

pub check_one-returns-in-Local-clause-value : goal.check_one-returns-in-Local-clause-value
check_one-returns-in-Local-clause-value t c =
    local_is c.args.below c.args.layout.now c.args.statement.now (watched (scope_in c.args.scope.now) c.args.choices.now c.args.seen) c.in-Local.field-0 c.in-Local.field-1 c.in-Local.field-2 c.in-Local.is

pub check_one-returns-in-Local-clause-wide : goal.check_one-returns-in-Local-clause-wide
check_one-returns-in-Local-clause-wide t c =
    ap first_wide (sym (local_met c.args.below c.args.layout.now c.args.statement.now (watched (scope_in c.args.scope.now) c.args.choices.now c.args.seen) c.in-Local.field-0 c.in-Local.field-1 c.in-Local.field-2 c.in-Local.is))

pub check_one-returns-in-Skip-clause-value : goal.check_one-returns-in-Skip-clause-value
check_one-returns-in-Skip-clause-value t c =
    skip_is c.args.below c.args.layout.now c.args.statement.now (watched (scope_in c.args.scope.now) c.args.choices.now c.args.seen) c.in-Skip.field-0 c.in-Skip.is

pub check_one-returns-in-Skip-clause-wide : goal.check_one-returns-in-Skip-clause-wide
check_one-returns-in-Skip-clause-wide t c =
    ap first_wide (sym (skip_met c.args.below c.args.layout.now c.args.statement.now (watched (scope_in c.args.scope.now) c.args.choices.now c.args.seen) c.in-Skip.field-0 c.in-Skip.is))

pub check_one-returns-in-Block-clause-value : goal.check_one-returns-in-Block-clause-value
check_one-returns-in-Block-clause-value t c =
    gives_as (check_of (scope_in c.args.scope.now) c.args.choices.now) _ _ c.check_each.result (block_is c.args.below c.args.layout.now c.args.statement.now (watched (scope_in c.args.scope.now) c.args.choices.now c.args.seen) c.in-Block.field-0 c.in-Block.block c.in-Block.is _ c.as_slice-block.ensures) c.check_each.ensures.value

pub check_one-returns-in-Block-clause-wide : goal.check_one-returns-in-Block-clause-wide
check_one-returns-in-Block-clause-wide t c =
    told_all _ _ c.check_each.result (block_met c.args.below c.args.layout.now c.args.statement.now (watched (scope_in c.args.scope.now) c.args.choices.now c.args.seen) c.in-Block.field-0 c.in-Block.block c.in-Block.is _ c.as_slice-block.ensures) c.check_each.ensures.wide

pub check_one-returns-in_err-seen-in-Assert-clause-wide : goal.check_one-returns-in_err-seen-in-Assert-clause-wide
check_one-returns-in_err-seen-in-Assert-clause-wide t c =
    let told = told_as Seen (Option Seen) _ _ c.in_err-seen-in-Assert.field-0.0 (assert_met c.args.below c.args.layout.now c.args.statement.now (watched (scope_in c.args.scope.now) c.args.choices.now c.args.seen) c.in-Assert.place c.in-Assert.field-1 c.in-Assert.formula c.in-Assert.is) c.in_err-seen-in-Assert.ensures.wide in
    search (rules, told)

pub check_one-returns-in_ok-seen-in-Assert-clause-value : goal.check_one-returns-in_ok-seen-in-Assert-clause-value
check_one-returns-in_ok-seen-in-Assert-clause-value t c =
    ap Kept (c.in_ok-seen-in-Assert.ensures.value c.args.choices.now) ∙ assert_is c.args.below c.args.layout.now c.args.statement.now (watched (scope_in c.args.scope.now) c.args.choices.now c.args.seen) c.in-Assert.place c.in-Assert.field-1 c.in-Assert.formula c.in-Assert.is

pub check_one-returns-in_ok-seen-in-Assert-clause-wide : goal.check_one-returns-in_ok-seen-in-Assert-clause-wide
check_one-returns-in_ok-seen-in-Assert-clause-wide t c =
    ap first_wide (sym (assert_met c.args.below c.args.layout.now c.args.statement.now (watched (scope_in c.args.scope.now) c.args.choices.now c.args.seen) c.in-Assert.place c.in-Assert.field-1 c.in-Assert.formula c.in-Assert.is)) ∙ c.in_ok-seen-in-Assert.ensures.wide

pub check_one-returns-in-Assume-clause-value : goal.check_one-returns-in-Assume-clause-value
check_one-returns-in-Assume-clause-value t c =
    gives_as (check_of (scope_in c.args.scope.now) c.args.choices.now) _ _ c.assumed.result (assume_is c.args.below c.args.layout.now c.args.statement.now (watched (scope_in c.args.scope.now) c.args.choices.now c.args.seen) c.in-Assume.field-0 c.in-Assume.formula c.in-Assume.is) (at_choices (scope_in c.args.scope.now) c.args.seen (kept_if (is_true c.args.layout.now (scope_in c.args.scope.now) c.in-Assume.formula)) c.args.choices.now c.assumed.result c.assumed.ensures.value)

pub check_one-returns-in-Assume-clause-wide : goal.check_one-returns-in-Assume-clause-wide
check_one-returns-in-Assume-clause-wide t c =
    told_all _ _ c.assumed.result (assume_met c.args.below c.args.layout.now c.args.statement.now (watched (scope_in c.args.scope.now) c.args.choices.now c.args.seen) c.in-Assume.field-0 c.in-Assume.formula c.in-Assume.is) c.assumed.ensures.wide

pub check_one-returns-in_ok-seen-in-Havoc-clause-value : goal.check_one-returns-in_ok-seen-in-Havoc-clause-value
check_one-returns-in_ok-seen-in-Havoc-clause-value t c =
    ap Kept (c.in_ok-seen-in-Havoc.ensures (scope_in c.args.scope.now) c.args.choices.now) ∙ havoc_is c.args.below c.args.layout.now c.args.statement.now (watched (scope_in c.args.scope.now) c.args.choices.now c.args.seen) c.in-Havoc.field-0 c.in-Havoc.name c.in-Havoc.field-2 c.in-Havoc.is

pub check_one-returns-in_ok-seen-in-Havoc-clause-wide : goal.check_one-returns-in_ok-seen-in-Havoc-clause-wide
check_one-returns-in_ok-seen-in-Havoc-clause-wide t c =
    ap first_wide (sym (havoc_met c.args.below c.args.layout.now c.args.statement.now (watched (scope_in c.args.scope.now) c.args.choices.now c.args.seen) c.in-Havoc.field-0 c.in-Havoc.name c.in-Havoc.field-2 c.in-Havoc.is))

pub check_one-returns-in-Assign-clause-value : goal.check_one-returns-in-Assign-clause-value
check_one-returns-in-Assign-clause-value t c =
    gives_as (check_of (scope_in c.args.scope.now) c.args.choices.now) _ _ c.assigned.result (assign_is c.args.below c.args.layout.now c.args.statement.now (watched (scope_in c.args.scope.now) c.args.choices.now c.args.seen) c.in-Assign.field-0 c.in-Assign.targets c.in-Assign.sources c.in-Assign.is _ _ c.as_slice-targets.ensures c.as_slice.ensures) (at_choices (scope_in c.args.scope.now) c.args.seen (check_targets c.args.layout.now c.as_slice-targets.result.now (map (value c.args.layout.now (scope_in c.args.scope.now)) c.as_slice.result.now)) c.args.choices.now c.assigned.result c.assigned.ensures.value)

pub check_one-returns-in-Assign-clause-wide : goal.check_one-returns-in-Assign-clause-wide
check_one-returns-in-Assign-clause-wide t c =
    told_all _ _ c.assigned.result (assign_met c.args.below c.args.layout.now c.args.statement.now (watched (scope_in c.args.scope.now) c.args.choices.now c.args.seen) c.in-Assign.field-0 c.in-Assign.targets c.in-Assign.sources c.in-Assign.is _ _ c.as_slice-targets.ensures c.as_slice.ensures) c.assigned.ensures.wide

pub check_one-returns-in-If-clause-value : goal.check_one-returns-in-If-clause-value
check_one-returns-in-If-clause-value t c =
    gives_as (check_of (scope_in c.args.scope.now) c.args.choices.now) _ _ c.check_taken.result (if_is c.args.below c.args.layout.now c.args.statement.now (watched (scope_in c.args.scope.now) c.args.choices.now c.args.seen) c.in-If.field-0 c.in-If.arms c.in-If.otherwise _ c.as_slice-arms.ensures c.in-If.is) c.check_taken.ensures.value

pub check_one-returns-in-If-clause-wide : goal.check_one-returns-in-If-clause-wide
check_one-returns-in-If-clause-wide t c =
    told_all _ _ c.check_taken.result (if_met c.args.below c.args.layout.now c.args.statement.now (watched (scope_in c.args.scope.now) c.args.choices.now c.args.seen) c.in-If.field-0 c.in-If.arms c.in-If.otherwise _ c.as_slice-arms.ensures c.in-If.is) c.check_taken.ensures.wide

pub check_one-returns-in-Case-clause-value : goal.check_one-returns-in-Case-clause-value
check_one-returns-in-Case-clause-value t c =
    gives_as (check_of (scope_in c.args.scope.now) c.args.choices.now) _ _ c.check_taken-in-Case.result (case_is c.args.below c.args.layout.now c.args.statement.now (watched (scope_in c.args.scope.now) c.args.choices.now c.args.seen) c.in-Case.field-0 c.in-Case.arms c.in-Case.otherwise _ c.as_slice-arms-in-Case.ensures c.in-Case.is) c.check_taken-in-Case.ensures.value

pub check_one-returns-in-Case-clause-wide : goal.check_one-returns-in-Case-clause-wide
check_one-returns-in-Case-clause-wide t c =
    told_all _ _ c.check_taken-in-Case.result (case_met c.args.below c.args.layout.now c.args.statement.now (watched (scope_in c.args.scope.now) c.args.choices.now c.args.seen) c.in-Case.field-0 c.in-Case.arms c.in-Case.otherwise _ c.as_slice-arms-in-Case.ensures c.in-Case.is) c.check_taken-in-Case.ensures.wide

pub check_one-returns-in_ok-turns-in-For-clause-value : goal.check_one-returns-in_ok-turns-in-For-clause-value
check_one-returns-in_ok-turns-in-For-clause-value t c =
    gives_as (check_of (scope_in c.args.scope.now) c.args.choices.now) _ _ c.check_turns.result (for_is c.args.below c.args.layout.now c.args.statement.now (watched (scope_in c.args.scope.now) c.args.choices.now c.args.seen) c.in-For.field-0 c.in-For.variable c.in-For.field-2 c.in-For.from c.in-For.to c.in-For.block c.in-For.is _ _ c.in_ok-turns-in-For.ensures.ty (c.as_slice-in-For.ensures ∙ c.in_ok-turns-in-For.ensures.values) _ c.as_slice-in-For-2.ensures) c.check_turns.ensures.value

pub check_one-returns-in_ok-turns-in-For-clause-wide : goal.check_one-returns-in_ok-turns-in-For-clause-wide
check_one-returns-in_ok-turns-in-For-clause-wide t c =
    told_all _ _ c.check_turns.result (for_met c.args.below c.args.layout.now c.args.statement.now (watched (scope_in c.args.scope.now) c.args.choices.now c.args.seen) c.in-For.field-0 c.in-For.variable c.in-For.field-2 c.in-For.from c.in-For.to c.in-For.block c.in-For.is _ _ c.in_ok-turns-in-For.ensures.ty (c.as_slice-in-For.ensures ∙ c.in_ok-turns-in-For.ensures.values) _ c.as_slice-in-For-2.ensures) c.check_turns.ensures.wide

pub check_one-returns-in-Call-clause-value : goal.check_one-returns-in-Call-clause-value
check_one-returns-in-Call-clause-value t c =
    gives_as (check_of (scope_in c.args.scope.now) c.args.choices.now) _ _ c.check_call.result (call_is c.args.below c.args.layout.now c.args.statement.now (watched (scope_in c.args.scope.now) c.args.choices.now c.args.seen) c.in-Call.place c.in-Call.targets c.in-Call.procedure c.in-Call.arguments c.in-Call.is _ _ c.as_slice-in-Call.ensures c.as_slice-in-Call-2.ensures) c.check_call.ensures.value

pub check_one-returns-in-Call-clause-wide : goal.check_one-returns-in-Call-clause-wide
check_one-returns-in-Call-clause-wide t c =
    told_all _ _ c.check_call.result (call_met_is c.args.below c.args.layout.now c.args.statement.now (watched (scope_in c.args.scope.now) c.args.choices.now c.args.seen) c.in-Call.place c.in-Call.targets c.in-Call.procedure c.in-Call.arguments c.in-Call.is _ _ c.as_slice-in-Call.ensures c.as_slice-in-Call-2.ensures) c.check_call.ensures.wide

pub check_one-returns-in-Next-clause-value : goal.check_one-returns-in-Next-clause-value
check_one-returns-in-Next-clause-value t c =
    gives_as (check_of (scope_in c.args.scope.now) c.args.choices.now) _ _ c.check_instance.result (next_is c.args.below c.args.layout.now c.args.statement.now (watched (scope_in c.args.scope.now) c.args.choices.now c.args.seen) c.in-Next.field-0 c.in-Next.instance c.in-Next.is) c.check_instance.ensures.value

pub check_one-returns-in-Next-clause-wide : goal.check_one-returns-in-Next-clause-wide
check_one-returns-in-Next-clause-wide t c =
    told_all _ _ c.check_instance.result (next_met c.args.below c.args.layout.now c.args.statement.now (watched (scope_in c.args.scope.now) c.args.choices.now c.args.seen) c.in-Next.field-0 c.in-Next.instance c.in-Next.is) c.check_instance.ensures.wide

pub check_taken-check_each-requires : goal.check_taken-check_each-requires
check_taken-check_each-requires t c =
    (omega (arith, c.decreases, ap sizes c.in_ok-block.ensures.value, taken_size c.args.layout.now (scope_in c.args.scope.now) c.args.arms.now c.args.otherwise.now), tt)

pub check_taken-returns-in_err-block-clause-wide : goal.check_taken-returns-in_err-block-clause-wide
check_taken-returns-in_err-block-clause-wide t c =
    let told = told_first (List Stmt) (Option Seen) (conditions_met c.args.layout.now (scope_in c.args.scope.now) c.args.arms.now) (check_met_at c.args.below c.args.layout.now (taken c.args.layout.now (scope_in c.args.scope.now) c.args.arms.now c.args.otherwise.now) (watched (scope_in c.args.scope.now) c.args.choices.now c.args.seen)) c.in_err-block.field-0.0 c.in_err-block.ensures.wide in
    search (rules, told)

pub check_taken-returns-clause-value : goal.check_taken-returns-clause-value
check_taken-returns-clause-value t c =
    gives_as (check_of (scope_in c.args.scope.now) c.args.choices.now) _ _ c.check_each.result (ap (λ b. check_at c.args.below c.args.layout.now b (watched (scope_in c.args.scope.now) c.args.choices.now c.args.seen)) c.in_ok-block.ensures.value) c.check_each.ensures.value

pub check_taken-returns-clause-wide : goal.check_taken-returns-clause-wide
check_taken-returns-clause-wide t c =
    told_second (conditions_met c.args.layout.now (scope_in c.args.scope.now) c.args.arms.now) (check_met_at c.args.below c.args.layout.now (taken c.args.layout.now (scope_in c.args.scope.now) c.args.arms.now c.args.otherwise.now) (watched (scope_in c.args.scope.now) c.args.choices.now c.args.seen)) c.check_each.result c.in_ok-block.ensures.wide (told_all _ _ c.check_each.result (ap (λ b. check_met_at c.args.below c.args.layout.now b (watched (scope_in c.args.scope.now) c.args.choices.now c.args.seen)) c.in_ok-block.ensures.value) c.check_each.ensures.wide)

pub check_decl-check_each-requires : goal.check_decl-check_each-requires
check_decl-check_each-requires t c = (omega (arith, c.decreases, ap decl_size c.in-Next.is, ap sizes c.as_slice-block.ensures), tt)

pub check_decl-returns-in_default : goal.check_decl-returns-in_default
check_decl-returns-in_default t c = record {
  value = sym (code_none c.args.below c.args.layout.now (watched (scope_in c.args.scope.now) c.args.choices.now c.args.seen)) ∙ ap (λ code. check_at c.args.below c.args.layout.now code (watched (scope_in c.args.scope.now) c.args.choices.now c.args.seen)) (sym (no_next c.args.decl.now c.in_default.not-Next));
  wide = ap (λ code. first_wide (check_met_at c.args.below c.args.layout.now code (watched (scope_in c.args.scope.now) c.args.choices.now c.args.seen))) (no_next c.args.decl.now c.in_default.not-Next) ∙ ap first_wide (met_none c.args.below c.args.layout.now (watched (scope_in c.args.scope.now) c.args.choices.now c.args.seen));
}

pub check_instance-check_decls-requires : goal.check_instance-check_decls-requires
check_instance-check_decls-requires t c =
    let some : c.args.below ≡ 0 → ⊥ = search rules in
    let most = stepped_size c.args.layout.now (c.args.scope.now.path.now ++ c.args.name ∷ []) c.in-Some.code.now (c.in-Some.ensures ∙ (λ i. module_at (c.system.ensures i) ((c.as_slice.ensures ∙ c.in_ok-path.ensures) i))) in
    (omega (arith, c.decreases, below_left c.args.below (blocks c.args.layout.now) (decls_size c.in-Some.code.now.decls) some, left_within c.args.below (blocks c.args.layout.now) (decls_size c.in-Some.code.now.decls) most, ap decls_size c.as_slice-decls.ensures), tt)

pub check_instance-returns-then-below-eq0-clause-value : goal.check_instance-returns-then-below-eq0-clause-value
check_instance-returns-then-below-eq0-clause-value t c =
    let none : c.args.below ≡ 0 = search rules in
    too_deep c.args.below c.args.layout.now (scope_in c.args.scope.now) c.args.choices.now c.args.seen (c.args.scope.now.path.now ++ c.args.name ∷ []) c.in-Some.code.now (module_at c.args.layout.now (c.args.scope.now.path.now ++ c.args.name ∷ [])) (c.in-Some.ensures ∙ (λ i. module_at (c.system.ensures i) ((c.as_slice.ensures ∙ c.in_ok-path.ensures) i))) none

pub check_instance-returns-then-below-eq0-clause-wide : goal.check_instance-returns-then-below-eq0-clause-wide
check_instance-returns-then-below-eq0-clause-wide t c =
    let none : c.args.below ≡ 0 = search rules in
    ap first_wide (sym (too_deep_met c.args.below c.args.layout.now (scope_in c.args.scope.now) c.args.choices.now c.args.seen (c.args.scope.now.path.now ++ c.args.name ∷ []) c.in-Some.code.now (module_at c.args.layout.now (c.args.scope.now.path.now ++ c.args.name ∷ [])) (c.in-Some.ensures ∙ (λ i. module_at (c.system.ensures i) ((c.as_slice.ensures ∙ c.in_ok-path.ensures) i))) none))

pub check_instance-returns-else-below-eq0-clause-value : goal.check_instance-returns-else-below-eq0-clause-value
check_instance-returns-else-below-eq0-clause-value t c =
    let some : c.args.below ≡ 0 → ⊥ = search rules in
    instance_gives c.args.below c.args.layout.now (scope_in c.args.scope.now) c.args.choices.now c.args.seen (c.args.scope.now.path.now ++ c.args.name ∷ []) c.in-Some.code.now (module_at c.args.layout.now (c.args.scope.now.path.now ++ c.args.name ∷ [])) (c.in-Some.ensures ∙ (λ i. module_at (c.system.ensures i) ((c.as_slice.ensures ∙ c.in_ok-path.ensures) i))) some c.as_slice-decls.result.now c.as_slice-decls.ensures (scope_in c.at_path-inside.result) (c.at_path-inside.ensures ∙ ap (at_path (scope_in c.args.scope.now)) (c.as_slice-in-Some.ensures ∙ c.in_ok-path.ensures)) c.check_decls.result c.check_decls.ensures.value

pub check_instance-returns-else-below-eq0-clause-wide : goal.check_instance-returns-else-below-eq0-clause-wide
check_instance-returns-else-below-eq0-clause-wide t c =
    let some : c.args.below ≡ 0 → ⊥ = search rules in
    told_all _ _ c.check_decls.result (instance_meets c.args.below c.args.layout.now (scope_in c.args.scope.now) c.args.choices.now c.args.seen (c.args.scope.now.path.now ++ c.args.name ∷ []) c.in-Some.code.now (module_at c.args.layout.now (c.args.scope.now.path.now ++ c.args.name ∷ [])) (c.in-Some.ensures ∙ (λ i. module_at (c.system.ensures i) ((c.as_slice.ensures ∙ c.in_ok-path.ensures) i))) some c.as_slice-decls.result.now c.as_slice-decls.ensures (scope_in c.at_path-inside.result) (c.at_path-inside.ensures ∙ ap (at_path (scope_in c.args.scope.now)) (c.as_slice-in-Some.ensures ∙ c.in_ok-path.ensures))) c.check_decls.ensures.wide
