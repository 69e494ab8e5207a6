use Rattle.std.proofs.Common.{None, refl, sym, subst}
use Rattle.std.specs.Prelude.{IfOk}
use Rattle.uc_operators.specs.Overflows.{first_wide, TellsWide}
use Rattle.uc_executions.specs.Starts.{start_met, IsStartAnswer}
use Rattle.uc_checks.specs.Tellings.{Tells}
use Rattle.uc_checks.specs.Walks.{Begins, BeginTells}
use Rattle.uc_checks.specs.Answers.{AreSites}
use Rattle.uc_checks.proofs.Told.{of_met}
use Rattle.uc_checks.proofs.Walking.{start_sites}
use Rattle.uc_checks.proofs.walk.begins.Goals as goal

pub returns-in-Initial-clause-value : goal.returns-in-Initial-clause-value
returns-in-Initial-clause-value c =
    subst (λ b. IfOk c.start_holds.result (AreSites (Begins b c.args.walk.now.layout.now c.args.walk.now.interp.now c.args.first.now))) (sym c.in-Initial.is)
    (start_sites c.args.walk.now.layout.now c.args.walk.now.interp.now c.args.first.now c.start_holds.result
    (subst (λ choices. IfOk c.start_holds.result (IsStartAnswer c.args.walk.now.layout.now c.args.walk.now.interp.now c.args.first.now.0 choices)) c.as_slice-choices.ensures c.start_holds.ensures.value))

pub returns-in-Initial-clause-wide : goal.returns-in-Initial-clause-wide
returns-in-Initial-clause-wide c =
    subst (λ b. Tells (BeginTells b c.args.walk.now.layout.now c.args.walk.now.interp.now c.args.first.now) c.start_holds.result) (sym c.in-Initial.is)
    (of_met (start_met c.args.walk.now.layout.now c.args.walk.now.interp.now c.args.first.now.1) c.start_holds.result
    (subst (λ choices. TellsWide (first_wide (start_met c.args.walk.now.layout.now c.args.walk.now.interp.now choices)) c.start_holds.result) c.as_slice-choices.ensures c.start_holds.ensures.wide))

pub returns-in-Anywhere-clause-value : goal.returns-in-Anywhere-clause-value
returns-in-Anywhere-clause-value c =
    subst (λ b. AreSites (Begins b c.args.walk.now.layout.now c.args.walk.now.interp.now c.args.first.now) c.free_sites.result) (sym c.in-Anywhere.is) c.free_sites.ensures

pub returns-in-Anywhere-clause-wide : goal.returns-in-Anywhere-clause-wide
returns-in-Anywhere-clause-wide c =
    subst (λ b. BeginTells b c.args.walk.now.layout.now c.args.walk.now.interp.now c.args.first.now None) (sym c.in-Anywhere.is) refl
