use Rattle.std.proofs.Common.{◌∙◌, List, Option, map, ap, rules}
use Rattle.uc_values.specs.declared.value.Value.{Value}
use Rattle.uc_meaning.specs.Expressions.{value}
use Rattle.uc_meaning.specs.OverflowsRuns.{all_met_in}
use Rattle.uc_meaning.specs.Checks.{assigned_met}
use Rattle.uc_readings.specs.Scopes.{scope_in}
use Rattle.uc_evaluator.proofs.Told.{told_first, told_second, told_all}
use Rattle.uc_checks.specs.declared.seen.Seen.{Seen}
use Rattle.uc_checks.proofs.assignment.assigned.Goals as goal

pub returns-in_err-values-clause-wide : goal.returns-in_err-values-clause-wide
returns-in_err-values-clause-wide c =
    let told = told_first (List Value) (Option Seen) (all_met_in c.args.layout.now (scope_in c.args.scope.now) c.args.sources.now) (assigned_met c.args.layout.now c.args.targets.now (map (value c.args.layout.now (scope_in c.args.scope.now)) c.args.sources.now) (scope_in c.args.scope.now)) c.in_err-values.field-0.0 c.in_err-values.ensures.wide in
    search (rules, told)

pub returns-clause-wide : goal.returns-clause-wide
returns-clause-wide c =
    told_second (all_met_in c.args.layout.now (scope_in c.args.scope.now) c.args.sources.now) (assigned_met c.args.layout.now c.args.targets.now (map (value c.args.layout.now (scope_in c.args.scope.now)) c.args.sources.now) (scope_in c.args.scope.now)) c.check_targets.result c.in_ok-values.ensures.wide
    (told_all _ _ c.check_targets.result (ap (λ vs. assigned_met c.args.layout.now c.args.targets.now vs (scope_in c.args.scope.now)) (c.as_slice.ensures ∙ c.in_ok-values.ensures.value)) c.check_targets.ensures.wide)
