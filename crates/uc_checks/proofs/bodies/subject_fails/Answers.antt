use Rattle.std.proofs.Common.{None, false, refl, sym, subst}
use Rattle.std.specs.Prelude.{◌-◌, slice_get, IfOk}
use Rattle.std.specs.Bool.{Decides}
use Rattle.uc_meaning.specs.Code.{Goes}
use Rattle.uc_meaning.specs.Runs.{ensures_of}
use Rattle.uc_meaning.specs.Lines.{BodyFails}
use Rattle.uc_executions.specs.Executions.{ensures_asked}
use Rattle.uc_checks.specs.Tellings.{Tells}
use Rattle.uc_checks.specs.Refutations.{ExitTells}
use Rattle.uc_checks.specs.Bodies.{ended}
use Rattle.uc_checks.proofs.Told.{of_met, none_decided, bool_decided}
use Rattle.uc_checks.proofs.bodies.subject_fails.Goals as goal

pub returns-in-Ensures-clause-value : goal.returns-in-Ensures-clause-value
returns-in-Ensures-clause-value c =
    subst (λ w. IfOk c.ensures_fails.result (λ b. Decides b (BodyFails c.args.layout.now c.args.execution.now.procedure.now c.args.execution.now.entry.now (ended c.args.scope.now c.args.violated.now) w))) (sym c.in-Ensures.is) c.ensures_fails.ensures.value

pub returns-in-Ensures-clause-wide : goal.returns-in-Ensures-clause-wide
returns-in-Ensures-clause-wide c =
    subst (λ w. Tells (ExitTells c.args.layout.now c.args.execution.now.procedure.now c.args.execution.now.entry.now (Goes (ended c.args.scope.now c.args.violated.now)) w) c.ensures_fails.result) (sym c.in-Ensures.is)
    (of_met (ensures_asked c.args.layout.now c.args.execution.now.entry.now c.args.scope.now (slice_get (ensures_of c.args.execution.now.procedure.now) (c.in-Ensures.number - 1))).met c.ensures_fails.result c.ensures_fails.ensures.wide)

pub returns-in-AtSite-clause-value : goal.returns-in-AtSite-clause-value
returns-in-AtSite-clause-value c =
    subst (λ w. Decides c.is_listed.result (BodyFails c.args.layout.now c.args.execution.now.procedure.now c.args.execution.now.entry.now (ended c.args.scope.now c.args.violated.now) w)) (sym c.in-AtSite.is) (bool_decided _ _ c.is_listed.ensures)

pub returns-in-AtSite-clause-wide : goal.returns-in-AtSite-clause-wide
returns-in-AtSite-clause-wide c = subst (λ w. ExitTells c.args.layout.now c.args.execution.now.procedure.now c.args.execution.now.entry.now (Goes (ended c.args.scope.now c.args.violated.now)) w None) (sym c.in-AtSite.is) refl

pub returns-in-Formula-clause-value : goal.returns-in-Formula-clause-value
returns-in-Formula-clause-value c =
    subst (λ w. Decides false (BodyFails c.args.layout.now c.args.execution.now.procedure.now c.args.execution.now.entry.now (ended c.args.scope.now c.args.violated.now) w)) (sym c.in-Formula.is) (none_decided (λ h. h))

pub returns-in-Formula-clause-wide : goal.returns-in-Formula-clause-wide
returns-in-Formula-clause-wide c = subst (λ w. ExitTells c.args.layout.now c.args.execution.now.procedure.now c.args.execution.now.entry.now (Goes (ended c.args.scope.now c.args.violated.now)) w None) (sym c.in-Formula.is) refl
