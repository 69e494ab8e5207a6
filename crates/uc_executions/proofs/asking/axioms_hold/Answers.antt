use Rattle.std.proofs.Common.{map, ap, ◌∙◌}
use Rattle.uc_meaning.specs.Cells.{instances}
use Rattle.uc_meaning.specs.Steps.{scope_of}
use Rattle.uc_meaning.specs.Runs.{no_state}
use Rattle.uc_evaluator.proofs.Told.{told_all}
use Rattle.uc_layout.specs.Instances.{instance_meant}
use Rattle.uc_executions.specs.declared.kind.FormulaKind.TheVariants.{Axiom}
use Rattle.uc_executions.specs.Formulas.{formulas_asked, axioms_asked}
use Rattle.uc_executions.proofs.Questions.{decided_as, gives}
use Rattle.uc_executions.proofs.Truths.{axioms_decided}
use Rattle.uc_executions.proofs.asking.axioms_hold.Goals as goal

pub returns-clause-value : goal.returns-clause-value
returns-clause-value c =
    decided_as (axioms_asked c.args.layout.now c.args.interp.now).holds c.formulas_hold.result (axioms_decided c.args.layout.now c.args.interp.now)
    (gives c.formulas_hold.result (ap (λ a. a.holds) ((λ k. formulas_asked c.args.layout.now Axiom (λ path. scope_of c.args.interp.now path (c.no_state-state.ensures k)) (map instance_meant c.as_slice.result.now)) ∙ ap (formulas_asked c.args.layout.now Axiom (λ path. scope_of c.args.interp.now path no_state)) (ap (map instance_meant) c.as_slice.ensures ∙ c.in_ok-all.ensures ∙ ap instances c.system.ensures))) c.formulas_hold.ensures.value)

pub returns-clause-wide : goal.returns-clause-wide
returns-clause-wide c = told_all _ _ c.formulas_hold.result (ap (λ a. a.met) ((λ k. formulas_asked c.args.layout.now Axiom (λ path. scope_of c.args.interp.now path (c.no_state-state.ensures k)) (map instance_meant c.as_slice.result.now)) ∙ ap (formulas_asked c.args.layout.now Axiom (λ path. scope_of c.args.interp.now path no_state)) (ap (map instance_meant) c.as_slice.ensures ∙ c.in_ok-all.ensures ∙ ap instances c.system.ensures))) c.formulas_hold.ensures.wide
