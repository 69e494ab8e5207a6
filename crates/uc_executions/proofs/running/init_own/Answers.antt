use Rattle.std.proofs.Common.{ap, ◌∙◌, sym}
use Rattle.uc_meaning.specs.Lookup.{init_of}
use Rattle.uc_meaning.specs.Code.{run}
use Rattle.uc_meaning.specs.OverflowsRuns.{run_met}
use Rattle.uc_operators.specs.Overflows.{first_wide}
use Rattle.uc_evaluator.proofs.Told.{told_all, gives_as}
use Rattle.uc_runs.specs.Runs.{ending_of}
use Rattle.uc_runs.proofs.Places.{stays, meets_none, behind, met_behind}
use Rattle.uc_layout.specs.Instances.{instance_meant}
use Rattle.uc_executions.specs.Starts.{own_init, own_init_met}
use Rattle.uc_executions.proofs.running.init_own.Goals as goal

pub returns-in_ok-run-in-Goes-clause-value : goal.returns-in_ok-run-in-Goes-clause-value
returns-in_ok-run-in-Goes-clause-value c =
    gives_as (ending_of c.args.choices.now) _ _ c.run_blocks.result
    (ap (run c.args.layout.now (init_of c.args.here.now.code.now)) (c.in_ok-run-in-Goes.ensures c.args.choices.now)
    ∙ behind c.args.choices.now c.args.before _ (own_init c.args.layout.now (instance_meant c.args.here.now)) c.in-Goes.is)
    c.run_blocks.ensures.value

pub returns-in_ok-run-in-Goes-clause-wide : goal.returns-in_ok-run-in-Goes-clause-wide
returns-in_ok-run-in-Goes-clause-wide c =
    told_all _ _ c.run_blocks.result
    (ap (run_met c.args.layout.now (init_of c.args.here.now.code.now)) (c.in_ok-run-in-Goes.ensures c.args.choices.now)
    ∙ met_behind c.args.choices.now c.args.before _ (own_init_met c.args.layout.now (instance_meant c.args.here.now)) c.in-Goes.is)
    c.run_blocks.ensures.wide

pub returns-in_default-clause-value : goal.returns-in_default-clause-value
returns-in_default-clause-value c = sym (stays c.args.choices.now c.args.before (own_init c.args.layout.now (instance_meant c.args.here.now)) c.in_default.not-Goes)

pub returns-in_default-clause-wide : goal.returns-in_default-clause-wide
returns-in_default-clause-wide c = ap first_wide (meets_none c.args.choices.now c.args.before (own_init_met c.args.layout.now (instance_meant c.args.here.now)) c.in_default.not-Goes)
