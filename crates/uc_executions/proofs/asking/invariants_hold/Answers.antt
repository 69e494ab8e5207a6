use Rattle.std.proofs.Common.{map, ap, ◌∙◌}
use Rattle.uc_meaning.specs.Cells.{instances}
use Rattle.uc_meaning.specs.Steps.{scope_of}
use Rattle.uc_evaluator.proofs.Told.{told_all}
use Rattle.uc_layout.specs.Instances.{instance_meant}
use Rattle.uc_executions.specs.declared.kind.FormulaKind.TheVariants.{Invariant}
use Rattle.uc_executions.specs.Formulas.{formulas_asked, invariants_asked}
use Rattle.uc_executions.proofs.Questions.{decided_as, gives}
use Rattle.uc_executions.proofs.Truths.{invariants_decided}
use Rattle.uc_executions.proofs.asking.invariants_hold.Goals as goal

pub returns-clause-value : goal.returns-clause-value
returns-clause-value c =
    decided_as (invariants_asked c.args.layout.now c.args.interp.now c.args.state.now).holds c.formulas_hold.result (invariants_decided c.args.layout.now c.args.interp.now c.args.state.now)
    (gives c.formulas_hold.result (ap (λ a. a.holds) (ap (formulas_asked c.args.layout.now Invariant (λ path. scope_of c.args.interp.now path c.args.state.now)) (ap (map instance_meant) c.as_slice.ensures ∙ c.in_ok-all.ensures ∙ ap instances c.system.ensures))) c.formulas_hold.ensures.value)

pub returns-clause-wide : goal.returns-clause-wide
returns-clause-wide c = told_all _ _ c.formulas_hold.result (ap (λ a. a.met) (ap (formulas_asked c.args.layout.now Invariant (λ path. scope_of c.args.interp.now path c.args.state.now)) (ap (map instance_meant) c.as_slice.ensures ∙ c.in_ok-all.ensures ∙ ap instances c.system.ensures))) c.formulas_hold.ensures.wide
