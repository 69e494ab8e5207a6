use Rattle.uc_executions.specs.Executions.{entry_at, body_met}
use Rattle.std.specs.Prelude.{Bool}
use Rattle.uc_meaning.specs.declared.code.CodeEnd.{CodeEnd}
use Rattle.uc_checks.specs.Tellings.{Of}
use Rattle.uc_checks.specs.Refutations.{EndsIn, ExitTells}
use Rattle.uc_checks.specs.Bodies.{ending_at}
use Rattle.std.proofs.Common.{rules}
use Rattle.uc_checks.proofs.Told.{of_err, told_here, where_behind}
use Rattle.uc_checks.proofs.Executed.{at_ending}
use Rattle.uc_checks.proofs.bodies.exit_fails.Goals as goal

pub returns-in_err-end-clause-wide : goal.returns-in_err-end-clause-wide
returns-in_err-end-clause-wide c =
    let told = told_here (Of (body_met c.args.layout.now c.args.execution.now.code.now c.args.execution.now.procedure.now (entry_at c.args.layout.now c.args.execution.now.code.now c.args.interp.now c.args.execution.now.procedure.now c.args.execution.now.entry.now c.args.execution.now.arguments.now) c.args.execution.now.choices.now)) (EndsIn c.args.execution.now.exit.now (ending_at c.args.layout.now c.args.interp.now c.args.execution.now)) (ExitTells c.args.layout.now c.args.execution.now.procedure.now c.args.execution.now.entry.now (ending_at c.args.layout.now c.args.interp.now c.args.execution.now) c.args.what.now) CodeEnd Bool c.in_err-end.field-0.0
    (of_err CodeEnd (body_met c.args.layout.now c.args.execution.now.code.now c.args.execution.now.procedure.now (entry_at c.args.layout.now c.args.execution.now.code.now c.args.interp.now c.args.execution.now.procedure.now c.args.execution.now.entry.now c.args.execution.now.arguments.now) c.args.execution.now.choices.now) c.in_err-end.field-0.0 (c.in_err-end.ensures.wide c.args.execution.now.code.now c.requires)) in
    search (rules, told)

pub returns-clause-value : goal.returns-clause-value
returns-clause-value c = at_ending c.args.layout.now c.args.execution.now c.args.what.now (ending_at c.args.layout.now c.args.interp.now c.args.execution.now) c.end_fails.result c.in_ok-end.end (c.in_ok-end.ensures.value c.args.execution.now.code.now c.requires) c.end_fails.ensures.value

pub returns-clause-wide : goal.returns-clause-wide
returns-clause-wide c =
    where_behind (Of (body_met c.args.layout.now c.args.execution.now.code.now c.args.execution.now.procedure.now (entry_at c.args.layout.now c.args.execution.now.code.now c.args.interp.now c.args.execution.now.procedure.now c.args.execution.now.entry.now c.args.execution.now.arguments.now) c.args.execution.now.choices.now)) (EndsIn c.args.execution.now.exit.now (ending_at c.args.layout.now c.args.interp.now c.args.execution.now)) (ExitTells c.args.layout.now c.args.execution.now.procedure.now c.args.execution.now.entry.now (ending_at c.args.layout.now c.args.interp.now c.args.execution.now) c.args.what.now) c.end_fails.result
    (c.in_ok-end.ensures.wide c.args.execution.now.code.now c.requires)
    (c.end_fails.ensures.wide (ending_at c.args.layout.now c.args.interp.now c.args.execution.now) (c.in_ok-end.ensures.value c.args.execution.now.code.now c.requires))
