use Rattle.std.proofs.Common.{◌∙◌, subst}
use Rattle.std.specs.Prelude.{IfOk}
use Rattle.std.specs.Bool.{Decides}
use Rattle.std.specs.List.{All}
use Rattle.uc_meaning.specs.Cells.{instances}
use Rattle.uc_meaning.specs.Runs.{states_at}
use Rattle.uc_meaning.specs.Lines.{HyperinvariantsIn}
use Rattle.uc_operators.specs.Overflows.{first_wide, TellsWide}
use Rattle.uc_executions.specs.Formulas.{hyperinvariants_asked}
use Rattle.uc_checks.proofs.Told.{of_met}
use Rattle.uc_checks.proofs.positions.hyperinvariants_at.Goals as goal

pub returns-clause-value : goal.returns-clause-value
returns-clause-value c = subst (λ ss. IfOk c.hyperinvariants_hold.result (λ b. Decides b (All (HyperinvariantsIn c.args.layout.now c.args.interp.now c.args.arity ss) (instances c.args.layout.now)))) (c.as_slice.ensures ∙ c.in_ok-states.ensures) c.hyperinvariants_hold.ensures.value

pub returns-clause-wide : goal.returns-clause-wide
returns-clause-wide c =
    of_met (hyperinvariants_asked c.args.layout.now c.args.interp.now c.args.arity (states_at c.args.position c.args.copies.now)).met c.hyperinvariants_hold.result
    (subst (λ ss. TellsWide (first_wide (hyperinvariants_asked c.args.layout.now c.args.interp.now c.args.arity ss).met) c.hyperinvariants_hold.result) (c.as_slice.ensures ∙ c.in_ok-states.ensures) c.hyperinvariants_hold.ensures.wide)
