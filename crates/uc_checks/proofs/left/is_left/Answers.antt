use Rattle.std.proofs.Common.{Bool, true, false, refl, rules}
use Rattle.std.specs.Prelude.{Err}
use Rattle.uc_meaning.specs.Overflow.{met, name_met}
use Rattle.uc_readings.specs.Scopes.{scope_in}
use Rattle.uc_readings.specs.declared.said.Said.{Said}
use Rattle.uc_evaluator.proofs.Told.{told_first, told_second, told_same, none_both}
use Rattle.uc_checks.proofs.left.is_left.Goals as goal

pub returns-in_err-new-clause-wide : goal.returns-in_err-new-clause-wide
returns-in_err-new-clause-wide c =
    let told = told_first Said Bool (name_met c.args.layout.now (met c.args.layout.now) (scope_in c.args.scope.now) c.args.name true) (name_met c.args.layout.now (met c.args.layout.now) (scope_in c.args.after.now) c.args.name false) c.in_err-new.field-0.0 c.in_err-new.ensures.wide in
    search (rules, told)

pub returns-in_err-left-clause-wide : goal.returns-in_err-left-clause-wide
returns-in_err-left-clause-wide c =
    let told = told_second {A = Bool} (name_met c.args.layout.now (met c.args.layout.now) (scope_in c.args.scope.now) c.args.name true) (name_met c.args.layout.now (met c.args.layout.now) (scope_in c.args.after.now) c.args.name false) (Err c.in_err-left.field-0.0) c.in_ok-new.ensures.wide
    (told_same Said Bool _ _ c.in_err-left.field-0.0 refl c.in_err-left.ensures.wide) in
    search (rules, told)

pub returns-clause-wide : goal.returns-clause-wide
returns-clause-wide c = none_both (name_met c.args.layout.now (met c.args.layout.now) (scope_in c.args.scope.now) c.args.name true) (name_met c.args.layout.now (met c.args.layout.now) (scope_in c.args.after.now) c.args.name false) c.in_ok-new.ensures.wide c.in_ok-left.ensures.wide
