use Rattle.std.proofs.Common.{Bool, true, refl, rules}
use Rattle.std.specs.Prelude.{Err}
use Rattle.uc_values.specs.declared.value.Value.{Value}
use Rattle.uc_meaning.specs.Overflow.{met, name_met}
use Rattle.uc_meaning.specs.OverflowsRuns.{target_met}
use Rattle.uc_readings.specs.Scopes.{scope_in}
use Rattle.uc_readings.specs.declared.said.Said.{Said}
use Rattle.uc_evaluator.proofs.Told.{told_first, told_second, told_same, none_both}
use Rattle.uc_checks.proofs.target.is_assigned.Goals as goal

pub returns-in_err-new-clause-wide : goal.returns-in_err-new-clause-wide
returns-in_err-new-clause-wide c =
    let told = told_first Said Bool (name_met c.args.layout.now (met c.args.layout.now) (scope_in c.args.scope.now) c.args.target.now.name true) (target_met c.args.layout.now (scope_in c.args.scope.now) c.args.target.now.name c.args.target.now.parts) c.in_err-new.field-0.0 c.in_err-new.ensures.wide in
    search (rules, told)

pub returns-in_err-wanted-clause-wide : goal.returns-in_err-wanted-clause-wide
returns-in_err-wanted-clause-wide c =
    let told = told_second {A = Bool} (name_met c.args.layout.now (met c.args.layout.now) (scope_in c.args.scope.now) c.args.target.now.name true) (target_met c.args.layout.now (scope_in c.args.scope.now) c.args.target.now.name c.args.target.now.parts) (Err c.in_err-wanted.field-0.0) c.in_ok-new.ensures.wide (told_same Value Bool _ _ c.in_err-wanted.field-0.0 refl c.in_err-wanted.ensures.wide) in
    search (rules, told)

pub returns-clause-wide : goal.returns-clause-wide
returns-clause-wide c = none_both (name_met c.args.layout.now (met c.args.layout.now) (scope_in c.args.scope.now) c.args.target.now.name true) (target_met c.args.layout.now (scope_in c.args.scope.now) c.args.target.now.name c.args.target.now.parts) c.in_ok-new.ensures.wide c.in_ok-wanted.ensures.wide
