use Rattle.std.proofs.Common.{◌∙◌, List, map, ap, rules}
use Rattle.uc_values.specs.declared.value.Value.{Value}
use Rattle.uc_meaning.specs.declared.scope.Scope.{Scope}
use Rattle.uc_meaning.specs.Expressions.{value}
use Rattle.uc_meaning.specs.Code.{write_all}
use Rattle.uc_meaning.specs.OverflowsRuns.{all_met_in, targets_met}
use Rattle.uc_evaluator.proofs.Told.{told_first, told_second, told_all, gives_as}
use Rattle.uc_runs.proofs.targets_assignment.assign.Goals as goal

pub returns-in_err-values-clause-wide : goal.returns-in_err-values-clause-wide
returns-in_err-values-clause-wide c =
    let told = told_first (List Value) Scope (all_met_in c.args.layout.now c.args.scope c.args.sources.now) (targets_met c.args.layout.now c.args.targets.now (map (value c.args.layout.now c.args.scope) c.args.sources.now) c.args.scope) c.in_err-values.field-0.0 c.in_err-values.ensures.wide in
    search (rules, told)

pub returns-clause-value : goal.returns-clause-value
returns-clause-value c =
    gives_as (λ s. s) _ _ c.write_all.result (ap (λ vs. write_all c.args.layout.now c.args.targets.now vs c.args.scope) (c.as_slice.ensures ∙ c.in_ok-values.ensures.value)) c.write_all.ensures.value

pub returns-clause-wide : goal.returns-clause-wide
returns-clause-wide c =
    told_second (all_met_in c.args.layout.now c.args.scope c.args.sources.now) (targets_met c.args.layout.now c.args.targets.now (map (value c.args.layout.now c.args.scope) c.args.sources.now) c.args.scope) c.write_all.result c.in_ok-values.ensures.wide
    (told_all _ _ c.write_all.result (ap (λ vs. targets_met c.args.layout.now c.args.targets.now vs c.args.scope) (c.as_slice.ensures ∙ c.in_ok-values.ensures.value)) c.write_all.ensures.wide)
