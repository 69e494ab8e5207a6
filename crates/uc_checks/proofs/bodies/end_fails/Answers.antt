use Rattle.std.proofs.Common.{subst}
use Rattle.std.specs.Prelude.{IfOk}
use Rattle.std.specs.Bool.{Decides}
use Rattle.uc_meaning.specs.Code.{Goes}
use Rattle.uc_meaning.specs.Lines.{BodyFails}
use Rattle.uc_checks.specs.Tellings.{Tells}
use Rattle.uc_checks.specs.Refutations.{ExitTells}
use Rattle.uc_checks.specs.Bodies.{ended}
use Rattle.uc_checks.proofs.Told.{refused}
use Rattle.uc_checks.proofs.Executed.{not_ended, not_ended_told, no_end, no_end_told, ends_value, ends_told}
use Rattle.uc_checks.proofs.bodies.end_fails.Goals as goal

pub returns-then-not-exits-clause-value : goal.returns-then-not-exits-clause-value
returns-then-not-exits-clause-value c = not_ended c.args.execution.now c.args.layout.now c.args.what.now c.args.end.now c.in-Ended.scope c.in-Ended.violated c.in-Ended.used c.in-Ended.is (refused c.is_exit-exits.result c.is_exit-exits.ensures c.if-not-exits.true)

pub returns-then-not-exits-clause-wide : goal.returns-then-not-exits-clause-wide
returns-then-not-exits-clause-wide c = not_ended_told c.args.execution.now c.args.layout.now c.args.what.now c.args.end.now c.in-Ended.scope c.in-Ended.violated c.in-Ended.used c.in-Ended.is (refused c.is_exit-exits.result c.is_exit-exits.ensures c.if-not-exits.true)

pub returns-else-not-exits-clause-value : goal.returns-else-not-exits-clause-value
returns-else-not-exits-clause-value c =
    ends_value c.args.execution.now c.args.layout.now c.args.what.now c.args.end.now c.in-Ended.scope c.in-Ended.violated c.in-Ended.used c.in-Ended.is (c.is_exit-exits.ensures.0 c.if-not-exits.false) c.subject_fails.result
    (subst (λ ss. IfOk c.subject_fails.result (λ b. Decides b (BodyFails c.args.layout.now c.args.execution.now.procedure.now c.args.execution.now.entry.now (ended c.in-Ended.scope ss) c.args.what.now))) c.as_slice.ensures c.subject_fails.ensures.value)

pub returns-else-not-exits-clause-wide : goal.returns-else-not-exits-clause-wide
returns-else-not-exits-clause-wide c =
    ends_told c.args.execution.now c.args.layout.now c.args.what.now c.args.end.now c.in-Ended.scope c.in-Ended.violated c.in-Ended.used c.in-Ended.is (c.is_exit-exits.ensures.0 c.if-not-exits.false) c.subject_fails.result
    (subst (λ ss. Tells (ExitTells c.args.layout.now c.args.execution.now.procedure.now c.args.execution.now.entry.now (Goes (ended c.in-Ended.scope ss)) c.args.what.now) c.subject_fails.result) c.as_slice.ensures c.subject_fails.ensures.wide)

pub returns-in_default-clause-value : goal.returns-in_default-clause-value
returns-in_default-clause-value c = no_end c.args.execution.now c.args.layout.now c.args.what.now c.args.end.now c.in_default.not-Ended

pub returns-in_default-clause-wide : goal.returns-in_default-clause-wide
returns-in_default-clause-wide c = no_end_told c.args.execution.now c.args.layout.now c.args.what.now c.args.end.now c.in_default.not-Ended
