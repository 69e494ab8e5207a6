use Rattle.std.proofs.Common.{◌≡◌, Option, ap, ◌∙◌, sym, subst, rules}
use Rattle.std.specs.Prelude.{IfOk}
use Rattle.uc_meaning.specs.Cells.{longest_chain}
use Rattle.uc_meaning.specs.Code.{run, run_through, call}
use Rattle.uc_meaning.specs.Steps.{running, check_call}
use Rattle.uc_meaning.specs.OverflowsRuns.{run_met, met_after, call_met}
use Rattle.uc_meaning.specs.Checks.{call_left_met}
use Rattle.uc_operators.specs.Overflows.{first_wide, TellsWide}
use Rattle.uc_readings.specs.Scopes.{scope_in}
use Rattle.uc_evaluator.proofs.Told.{told_first, told_second, told_as, told_all, gives_as}
use Rattle.uc_runs.specs.declared.run.Ending.{Ending}
use Rattle.uc_runs.specs.Runs.{ending_of}
use Rattle.uc_checks.specs.declared.seen.Seen.{Seen}
use Rattle.uc_checks.specs.Watches.{watched, check_of, before_call}
use Rattle.uc_checks.proofs.Scopes.{whole_run, whole_met, for_choices, call_same}
use Rattle.uc_checks.proofs.called.check_call.Goals as goal

pub returns-in_err-written-clause-wide : goal.returns-in_err-written-clause-wide
returns-in_err-written-clause-wide c =
    let there = subst (TellsWide {A = Ending} _) c.in_err-written.ensures c.run_call-ended.ensures.wide in
    let told = told_first Ending (Option Seen) (call_met c.args.layout.now (run c.args.layout.now) (run_met c.args.layout.now) c.args.place c.args.targets.now c.args.name c.args.arguments.now (running (watched (scope_in c.args.scope.now) c.args.choices.now c.args.seen))) (met_after (call c.args.layout.now (run c.args.layout.now) c.args.place c.args.targets.now c.args.name c.args.arguments.now (running (watched (scope_in c.args.scope.now) c.args.choices.now c.args.seen))) (call_left_met c.args.layout.now c.args.targets.now c.args.name (watched (scope_in c.args.scope.now) c.args.choices.now c.args.seen))) c.in_err-written.field-0.0 (told_as Ending Ending _ (call_met c.args.layout.now (run c.args.layout.now) (run_met c.args.layout.now) c.args.place c.args.targets.now c.args.name c.args.arguments.now (running (watched (scope_in c.args.scope.now) c.args.choices.now c.args.seen))) c.in_err-written.field-0.0 (λ i. call_met c.args.layout.now (whole_run longest_chain c.args.layout.now i) (whole_met longest_chain c.args.layout.now i) c.args.place c.args.targets.now c.args.name c.args.arguments.now (record (running (watched (scope_in c.args.scope.now) c.args.choices.now c.args.seen)) { scope = c.in_ok-before.ensures i })) there) in
    search (rules, told)

pub returns-clause-value : goal.returns-clause-value
returns-clause-value c =
    gives_as (check_of (scope_in c.args.scope.now) c.args.choices.now) _ _ c.left_by_call.result
    (ap (λ ws. check_call c.args.layout.now c.args.targets.now c.args.name (before_call (scope_in c.args.scope.now) ws) (ending_of c.args.choices.now c.in_ok-written.ended)) c.in_ok-written.ensures.0
    ∙ call_same c.args.layout.now c.args.targets.now c.args.name (scope_in c.args.scope.now) c.args.choices.now c.args.seen (ending_of c.args.choices.now c.in_ok-written.ended)
    ∙ ap (check_call c.args.layout.now c.args.targets.now c.args.name (watched (scope_in c.args.scope.now) c.args.choices.now c.args.seen)) (subst (λ r. IfOk r (λ e. ending_of c.args.choices.now e ≡ call c.args.layout.now (run_through 33 c.args.layout.now) c.args.place c.args.targets.now c.args.name c.args.arguments.now (record (running (watched (scope_in c.args.scope.now) c.args.choices.now c.args.seen)) { scope = c.in_ok-before.before }))) c.in_ok-written.ensures.1 c.run_call-ended.ensures.value ∙ (λ i. call c.args.layout.now (whole_run longest_chain c.args.layout.now i) c.args.place c.args.targets.now c.args.name c.args.arguments.now (record (running (watched (scope_in c.args.scope.now) c.args.choices.now c.args.seen)) { scope = c.in_ok-before.ensures i }))))
    (for_choices (scope_in c.args.scope.now) (λ cs. check_call c.args.layout.now c.args.targets.now c.args.name (before_call (scope_in c.args.scope.now) c.in_ok-written.written) (ending_of cs c.in_ok-written.ended)) c.args.choices.now c.left_by_call.result c.left_by_call.ensures.value)

pub returns-clause-wide : goal.returns-clause-wide
returns-clause-wide c =
    let none = subst (TellsWide {A = Ending} _) c.in_ok-written.ensures.1 c.run_call-ended.ensures.wide in
    told_second (call_met c.args.layout.now (run c.args.layout.now) (run_met c.args.layout.now) c.args.place c.args.targets.now c.args.name c.args.arguments.now (running (watched (scope_in c.args.scope.now) c.args.choices.now c.args.seen))) (met_after (call c.args.layout.now (run c.args.layout.now) c.args.place c.args.targets.now c.args.name c.args.arguments.now (running (watched (scope_in c.args.scope.now) c.args.choices.now c.args.seen))) (call_left_met c.args.layout.now c.args.targets.now c.args.name (watched (scope_in c.args.scope.now) c.args.choices.now c.args.seen))) c.left_by_call.result (ap first_wide (sym (λ i. call_met c.args.layout.now (whole_run longest_chain c.args.layout.now i) (whole_met longest_chain c.args.layout.now i) c.args.place c.args.targets.now c.args.name c.args.arguments.now (record (running (watched (scope_in c.args.scope.now) c.args.choices.now c.args.seen)) { scope = c.in_ok-before.ensures i }))) ∙ none)
    (told_all _ _ c.left_by_call.result (ap (λ e. met_after e (call_left_met c.args.layout.now c.args.targets.now c.args.name (watched (scope_in c.args.scope.now) c.args.choices.now c.args.seen))) (subst (λ r. IfOk r (λ e. ending_of c.args.choices.now e ≡ call c.args.layout.now (run_through 33 c.args.layout.now) c.args.place c.args.targets.now c.args.name c.args.arguments.now (record (running (watched (scope_in c.args.scope.now) c.args.choices.now c.args.seen)) { scope = c.in_ok-before.before }))) c.in_ok-written.ensures.1 c.run_call-ended.ensures.value ∙ (λ i. call c.args.layout.now (whole_run longest_chain c.args.layout.now i) c.args.place c.args.targets.now c.args.name c.args.arguments.now (record (running (watched (scope_in c.args.scope.now) c.args.choices.now c.args.seen)) { scope = c.in_ok-before.ensures i })))) (c.left_by_call.ensures.wide c.args.choices.now))
