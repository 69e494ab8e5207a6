use Rattle.std.proofs.Common.{◌≡◌, [], false, ap, rules}
use Rattle.uc_values.specs.declared.value.Value.{Value}
use Rattle.uc_meaning.specs.Overflow.{met, name_met}
use Rattle.uc_meaning.specs.Code.{name_now}
use Rattle.uc_readings.specs.Scopes.{scope_in}
use Rattle.uc_readings.specs.declared.said.Said.{Said}
use Rattle.uc_evaluator.proofs.Told.{told_first, told_as, told_all, told_second}
use Rattle.uc_runs.specs.Targets.{parts_met}
use Rattle.uc_runs.proofs.Replacing.{no_parts}
use Rattle.uc_runs.proofs.Writing.{behind_met}
use Rattle.uc_runs.proofs.target.new_value.Goals as goal

pub returns-then-is_empty-clause-value : goal.returns-then-is_empty-clause-value
returns-then-is_empty-clause-value c =
    let none : c.args.target.now.parts ≡ [] = search rules in
    no_parts c.args.layout.now (scope_in c.args.scope.now) c.args.target.now.parts (name_now c.args.layout.now (scope_in c.args.scope.now) c.args.target.now.name) c.args.value none

pub returns-in_err-whole-clause-wide : goal.returns-in_err-whole-clause-wide
returns-in_err-whole-clause-wide c =
    let some : c.args.target.now.parts ≡ [] → ⊥ = search rules in
    let told = told_as Value Value _ _ c.in_err-whole.field-0.0 (behind_met c.args.layout.now (scope_in c.args.scope.now) c.args.target.now.name c.args.target.now.parts some)
    (told_first Said Value (name_met c.args.layout.now (met c.args.layout.now) (scope_in c.args.scope.now) c.args.target.now.name false) (parts_met c.args.layout.now (scope_in c.args.scope.now) c.args.target.now.parts) c.in_err-whole.field-0.0 c.in_err-whole.ensures.wide) in
    search (rules, told)

pub returns-clause-wide : goal.returns-clause-wide
returns-clause-wide c =
    let some : c.args.target.now.parts ≡ [] → ⊥ = search rules in
    told_all _ _ c.replaced.result (behind_met c.args.layout.now (scope_in c.args.scope.now) c.args.target.now.name c.args.target.now.parts some)
    (told_second (name_met c.args.layout.now (met c.args.layout.now) (scope_in c.args.scope.now) c.args.target.now.name false) (parts_met c.args.layout.now (scope_in c.args.scope.now) c.args.target.now.parts) c.replaced.result c.in_ok-whole.ensures.wide
    (told_all _ _ c.replaced.result (ap (parts_met c.args.layout.now (scope_in c.args.scope.now)) c.as_slice-parts.ensures) c.replaced.ensures.wide))
