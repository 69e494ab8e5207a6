use Rattle.std.proofs.Common.{ap, ◌∙◌, sym, subst, refl, rules}
use Rattle.uc_meaning.specs.declared.code.CodeEnd.{CodeEnd}
use Rattle.uc_meaning.specs.Code.{declare, names_with_types, then_run, run}
use Rattle.uc_meaning.specs.Ends.{IsEnd}
use Rattle.uc_meaning.specs.OverflowsRuns.{run_met, met_after}
use Rattle.uc_operators.specs.Overflows.{first_wide}
use Rattle.uc_evaluator.proofs.Told.{told_as}
use Rattle.uc_runs.specs.declared.run.Ending.{Ending}
use Rattle.uc_executions.proofs.body.body_end.Goals as goal

pub returns-in_err-end-clause-wide : goal.returns-in_err-end-clause-wide
returns-in_err-end-clause-wide c = λ m at.
    let told = told_as Ending CodeEnd _ _ c.in_err-end.field-0.0 ((λ k. met_after (c.in_ok-begun.ensures m at k) (run_met c.args.layout.now (c.as_slice-2.ensures k))) ∙ (λ k. met_after (declare c.args.layout.now m (names_with_types (c.as_slice.ensures k)) (record { scope = c.args.scope; sites = c.new.ensures k; left = c.args.choices.now })) (run_met c.args.layout.now c.args.procedure.now.body))) c.in_err-end.ensures.wide in
    search (rules, told)

pub returns-clause-value : goal.returns-clause-value
returns-clause-value c = λ m at. subst (IsEnd c.args.choices.now c.code_end.result) (c.in_ok-end.ensures.value ∙ (λ k. then_run (c.in_ok-begun.ensures m at k) (run c.args.layout.now (c.as_slice-2.ensures k))) ∙ (λ k. then_run (declare c.args.layout.now m (names_with_types (c.as_slice.ensures k)) (record { scope = c.args.scope; sites = c.new.ensures k; left = c.args.choices.now })) (run c.args.layout.now c.args.procedure.now.body))) (c.code_end.ensures c.args.choices.now refl)

pub returns-clause-wide : goal.returns-clause-wide
returns-clause-wide c = λ m at. ap first_wide (sym ((λ k. met_after (c.in_ok-begun.ensures m at k) (run_met c.args.layout.now (c.as_slice-2.ensures k))) ∙ (λ k. met_after (declare c.args.layout.now m (names_with_types (c.as_slice.ensures k)) (record { scope = c.args.scope; sites = c.new.ensures k; left = c.args.choices.now })) (run_met c.args.layout.now c.args.procedure.now.body)))) ∙ c.in_ok-end.ensures.wide
