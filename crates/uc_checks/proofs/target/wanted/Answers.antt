use Rattle.std.proofs.Common.{◌≡◌, [], false, ap, ◌∙◌, rules}
use Rattle.uc_values.specs.declared.value.Value.{Value}
use Rattle.uc_meaning.specs.Overflow.{met, name_met}
use Rattle.uc_meaning.specs.Steps.{from_index}
use Rattle.uc_readings.specs.Scopes.{scope_in}
use Rattle.uc_readings.specs.declared.said.Said.{Said}
use Rattle.uc_evaluator.proofs.Told.{told_first, told_as, told_all, told_second}
use Rattle.uc_runs.specs.Targets.{parts_met}
use Rattle.uc_runs.proofs.Replacing.{no_parts}
use Rattle.uc_runs.proofs.Writing.{behind_met}
use Rattle.uc_checks.proofs.Parts.{met_from_index, nothing_from}
use Rattle.uc_checks.proofs.target.wanted.Goals as goal

pub returns-then-is_empty-clause-value : goal.returns-then-is_empty-clause-value
returns-then-is_empty-clause-value c =
    let none : c.args.target.now.parts ≡ [] = search rules in
    c.in_ok-value.ensures ∙ no_parts c.args.layout.now (scope_in c.args.scope.now) (from_index c.args.target.now.parts) _ c.args.value.now (nothing_from c.args.target.now.parts none)

pub returns-in_err-old-clause-wide : goal.returns-in_err-old-clause-wide
returns-in_err-old-clause-wide c =
    let some : c.args.target.now.parts ≡ [] → ⊥ = search rules in
    let told = told_as Value Value _ _ c.in_err-old.field-0.0 (behind_met c.args.layout.now (scope_in c.args.scope.now) c.args.target.now.name c.args.target.now.parts some) (told_first Said Value (name_met c.args.layout.now (met c.args.layout.now) (scope_in c.args.scope.now) c.args.target.now.name false) (parts_met c.args.layout.now (scope_in c.args.scope.now) c.args.target.now.parts) c.in_err-old.field-0.0 c.in_err-old.ensures.wide) in
    search (rules, told)

pub returns-clause-wide : goal.returns-clause-wide
returns-clause-wide c =
    let some : c.args.target.now.parts ≡ [] → ⊥ = search rules in
    told_all _ _ c.replaced.result (behind_met c.args.layout.now (scope_in c.args.scope.now) c.args.target.now.name c.args.target.now.parts some)
    (told_second (name_met c.args.layout.now (met c.args.layout.now) (scope_in c.args.scope.now) c.args.target.now.name false) (parts_met c.args.layout.now (scope_in c.args.scope.now) c.args.target.now.parts) c.replaced.result c.in_ok-old.ensures.wide
    (told_all _ _ c.replaced.result (ap (parts_met c.args.layout.now (scope_in c.args.scope.now)) (c.from_index-parts.ensures ∙ ap from_index c.as_slice.ensures) ∙ met_from_index c.args.layout.now (scope_in c.args.scope.now) c.args.target.now.parts) c.replaced.ensures.wide))
