use Rattle.std.proofs.Common.{subst}
use Rattle.std.specs.Prelude.{IfOk}
use Rattle.uc_meaning.specs.Answers.{IsStepAnswer}
use Rattle.uc_operators.specs.Overflows.{first_wide, TellsWide}
use Rattle.uc_meaning.specs.Checks.{step_met}
use Rattle.uc_checks.proofs.Told.{of_met}
use Rattle.uc_checks.proofs.Walking.{step_answers}
use Rattle.uc_checks.proofs.walk.step_sites.Goals as goal

pub returns-clause-value : goal.returns-clause-value
returns-clause-value c =
    step_answers c.args.walk.now.layout.now c.args.walk.now.interp.now c.args.old.now c.args.next.now.0 c.args.next.now.1 c.step_holds.result
    (subst (λ choices. IfOk c.step_holds.result (IsStepAnswer c.args.walk.now.layout.now c.args.walk.now.interp.now c.args.old.now c.args.next.now.0 choices)) c.as_slice-choices.ensures c.step_holds.ensures.value)

pub returns-clause-wide : goal.returns-clause-wide
returns-clause-wide c =
    of_met (step_met c.args.walk.now.layout.now c.args.walk.now.interp.now c.args.old.now c.args.next.now.0 c.args.next.now.1) c.step_holds.result
    (subst (λ choices. TellsWide (first_wide (step_met c.args.walk.now.layout.now c.args.walk.now.interp.now c.args.old.now c.args.next.now.0 choices)) c.step_holds.result) c.as_slice-choices.ensures c.step_holds.ensures.wide)
