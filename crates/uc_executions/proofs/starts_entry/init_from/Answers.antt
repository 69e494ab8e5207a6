use Rattle.std.proofs.Common.{ap, ◌∙◌, sym, subst, refl, rules}
use Rattle.uc_meaning.specs.declared.code.CodeEnd.{CodeEnd}
use Rattle.uc_meaning.specs.Steps.{init}
use Rattle.uc_meaning.specs.Ends.{IsEnd}
use Rattle.uc_meaning.specs.Checks.{init_met}
use Rattle.uc_operators.specs.Overflows.{first_wide}
use Rattle.uc_evaluator.proofs.Told.{told_as}
use Rattle.uc_runs.specs.declared.run.Ending.{Ending}
use Rattle.uc_executions.proofs.Inits.{place}
use Rattle.uc_executions.proofs.starts_entry.init_from.Goals as goal

pub returns-in_err-end-clause-wide : goal.returns-in_err-end-clause-wide
returns-in_err-end-clause-wide c =
    let told = told_as Ending CodeEnd _ _ c.in_err-end.field-0.0 (ap (init_met c.args.layout.now) (place c.args.layout.now c.args.interp.now c.args.choices.now c.args.count c.requires.cells c.in_ok-scope.scope c.in_ok-scope.ensures c.new.result c.new.ensures)) c.in_err-end.ensures.wide in
    search (rules, told)

pub returns-clause-value : goal.returns-clause-value
returns-clause-value c =
    subst (IsEnd c.args.choices.now c.code_end.result)
    (c.in_ok-end.ensures.value ∙ ap (init c.args.layout.now) (place c.args.layout.now c.args.interp.now c.args.choices.now c.args.count c.requires.cells c.in_ok-scope.scope c.in_ok-scope.ensures c.new.result c.new.ensures))
    (c.code_end.ensures c.args.choices.now refl)

pub returns-clause-wide : goal.returns-clause-wide
returns-clause-wide c =
    ap (λ r. first_wide (init_met c.args.layout.now r)) (sym (place c.args.layout.now c.args.interp.now c.args.choices.now c.args.count c.requires.cells c.in_ok-scope.scope c.in_ok-scope.ensures c.new.result c.new.ensures))
    ∙ c.in_ok-end.ensures.wide
