use Rattle.std.proofs.Common.{◌≡◌, true, subst}
use Rattle.std.specs.Prelude.{IfOk}
use Rattle.std.specs.Bool.{Decides}
use Rattle.std.specs.List.{All}
use Rattle.uc_meaning.specs.Expressions.{is_true}
use Rattle.uc_meaning.specs.Code.{requires_of}
use Rattle.uc_operators.specs.Overflows.{first_wide, TellsWide}
use Rattle.uc_executions.specs.Asked.{ask_each}
use Rattle.uc_executions.specs.Formulas.{truth_asked}
use Rattle.uc_executions.specs.Executions.{entry_at}
use Rattle.uc_checks.proofs.Told.{of_met}
use Rattle.uc_checks.proofs.bodies.is_required.Goals as goal

pub returns-clause-value : goal.returns-clause-value
returns-clause-value c = subst (λ s. IfOk c.requires_hold.result (λ b. Decides b (All (λ e. is_true c.args.layout.now s e ≡ true) (requires_of c.args.execution.now.procedure.now)))) c.in_ok-scope.ensures c.requires_hold.ensures.value

pub returns-clause-wide : goal.returns-clause-wide
returns-clause-wide c =
    of_met (ask_each (truth_asked c.args.layout.now (entry_at c.args.layout.now c.args.execution.now.code.now c.args.interp.now c.args.execution.now.procedure.now c.args.execution.now.entry.now c.args.execution.now.arguments.now)) (requires_of c.args.execution.now.procedure.now)).met c.requires_hold.result
    (subst (λ s. TellsWide (first_wide (ask_each (truth_asked c.args.layout.now s) (requires_of c.args.execution.now.procedure.now)).met) c.requires_hold.result) c.in_ok-scope.ensures c.requires_hold.ensures.wide)
