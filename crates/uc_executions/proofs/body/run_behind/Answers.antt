use Rattle.std.proofs.Common.{ap, sym}
use Rattle.uc_meaning.specs.Code.{run}
use Rattle.uc_meaning.specs.OverflowsRuns.{run_met}
use Rattle.uc_operators.specs.Overflows.{first_wide}
use Rattle.uc_evaluator.proofs.Told.{told_all, gives_as}
use Rattle.uc_runs.specs.Runs.{ending_of}
use Rattle.uc_runs.proofs.Places.{stays, meets_none, behind, met_behind}
use Rattle.uc_executions.proofs.body.run_behind.Goals as goal

pub returns-in-Goes-clause-value : goal.returns-in-Goes-clause-value
returns-in-Goes-clause-value c =
    gives_as (ending_of c.args.choices.now) _ _ c.run_each.result (behind c.args.choices.now c.args.before _ (run c.args.layout.now c.args.code.now) c.in-Goes.is) c.run_each.ensures.value

pub returns-in-Goes-clause-wide : goal.returns-in-Goes-clause-wide
returns-in-Goes-clause-wide c =
    told_all _ _ c.run_each.result (met_behind c.args.choices.now c.args.before _ (run_met c.args.layout.now c.args.code.now) c.in-Goes.is) c.run_each.ensures.wide

pub returns-in_default-clause-value : goal.returns-in_default-clause-value
returns-in_default-clause-value c = sym (stays c.args.choices.now c.args.before (run c.args.layout.now c.args.code.now) c.in_default.not-Goes)

pub returns-in_default-clause-wide : goal.returns-in_default-clause-wide
returns-in_default-clause-wide c = ap first_wide (meets_none c.args.choices.now c.args.before (run_met c.args.layout.now c.args.code.now) c.in_default.not-Goes)
