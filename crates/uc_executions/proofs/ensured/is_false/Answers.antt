use Rattle.std.proofs.Common.{not, ap, ◌∙◌, sym, rules}
use Rattle.std.specs.Prelude.{Bool}
use Rattle.uc_meaning.specs.Expressions.{is_true}
use Rattle.uc_meaning.specs.Overflow.{met}
use Rattle.uc_operators.specs.Overflows.{first_wide}
use Rattle.uc_evaluator.proofs.Told.{told_as}
use Rattle.uc_executions.proofs.ensured.is_false.Goals as goal

pub returns-in_err-holds-clause-wide : goal.returns-in_err-holds-clause-wide
returns-in_err-holds-clause-wide c =
    let told = told_as Bool Bool _ _ c.in_err-holds.field-0.0 (ap (λ s. met c.args.layout.now s c.args.formula.now) c.exit_scope-scope.ensures) c.in_err-holds.ensures.wide in
    search (rules, told)

pub returns-clause-value : goal.returns-clause-value
returns-clause-value c = ap not (c.in_ok-holds.ensures.value ∙ ap (λ s. is_true c.args.layout.now s c.args.formula.now) c.exit_scope-scope.ensures)

pub returns-clause-wide : goal.returns-clause-wide
returns-clause-wide c = ap (λ s. first_wide (met c.args.layout.now s c.args.formula.now)) (sym c.exit_scope-scope.ensures) ∙ c.in_ok-holds.ensures.wide
