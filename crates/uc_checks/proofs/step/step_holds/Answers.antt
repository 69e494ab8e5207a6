use Rattle.std.proofs.Common.{List, Option, ap, ◌∙◌, sym, rules}
use Rattle.uc_meaning.specs.declared.scope.Site.{Site}
use Rattle.uc_operators.specs.Overflows.{first_wide}
use Rattle.uc_readings.specs.Scopes.{scope_in}
use Rattle.uc_evaluator.proofs.Told.{told_as}
use Rattle.uc_checks.specs.declared.seen.Seen.{Seen}
use Rattle.uc_checks.proofs.Answers.{step_meets}
use Rattle.uc_checks.proofs.step.step_holds.Goals as goal

pub returns-in_err-asked-clause-wide : goal.returns-in_err-asked-clause-wide
returns-in_err-asked-clause-wide c =
    let told = told_as (Option Seen) (Option (List Site)) _ _ c.in_err-asked.field-0.0 (step_meets c.args.layout.now c.args.interp.now c.args.old.now c.args.new.now c.args.choices.now (scope_in c.step_scope-scope.result) c.step_scope-scope.ensures) c.in_err-asked.ensures.wide in
    search (rules, told)

pub returns-in_ok-answer-in-Some-clause-wide : goal.returns-in_ok-answer-in-Some-clause-wide
returns-in_ok-answer-in-Some-clause-wide c = ap first_wide (sym (step_meets c.args.layout.now c.args.interp.now c.args.old.now c.args.new.now c.args.choices.now (scope_in c.step_scope-scope.result) c.step_scope-scope.ensures)) ∙ c.in_ok-asked.ensures.wide

pub returns-in-None-clause-wide : goal.returns-in-None-clause-wide
returns-in-None-clause-wide c = ap first_wide (sym (step_meets c.args.layout.now c.args.interp.now c.args.old.now c.args.new.now c.args.choices.now (scope_in c.step_scope-scope.result) c.step_scope-scope.ensures)) ∙ c.in_ok-asked.ensures.wide
