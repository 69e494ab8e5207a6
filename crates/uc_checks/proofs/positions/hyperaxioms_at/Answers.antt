use Rattle.std.proofs.Common.{◌∙◌, subst}
use Rattle.std.specs.Prelude.{IfOk}
use Rattle.std.specs.Bool.{Decides}
use Rattle.uc_meaning.specs.Runs.{states_at, HyperaxiomsAt}
use Rattle.uc_operators.specs.Overflows.{first_wide, TellsWide}
use Rattle.uc_executions.specs.Formulas.{hyperaxioms_asked}
use Rattle.uc_checks.proofs.Told.{of_met}
use Rattle.uc_checks.proofs.positions.hyperaxioms_at.Goals as goal

pub returns-clause-value : goal.returns-clause-value
returns-clause-value c = subst (λ ss. IfOk c.hyperaxioms_hold.result (λ b. Decides b (HyperaxiomsAt c.args.layout.now c.args.interp.now c.args.arity ss))) (c.as_slice.ensures ∙ c.in_ok-states.ensures) c.hyperaxioms_hold.ensures.value

pub returns-clause-wide : goal.returns-clause-wide
returns-clause-wide c =
    of_met (hyperaxioms_asked c.args.layout.now c.args.interp.now c.args.arity (states_at c.args.position c.args.copies.now)).met c.hyperaxioms_hold.result
    (subst (λ ss. TellsWide (first_wide (hyperaxioms_asked c.args.layout.now c.args.interp.now c.args.arity ss).met) c.hyperaxioms_hold.result) (c.as_slice.ensures ∙ c.in_ok-states.ensures) c.hyperaxioms_hold.ensures.wide)
