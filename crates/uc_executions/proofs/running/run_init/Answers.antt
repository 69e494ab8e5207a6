use Rattle.std.proofs.Common.{ap, ◌∙◌}
use Rattle.uc_meaning.specs.Cells.{longest_chain}
use Rattle.uc_meaning.specs.Lookup.{main_module}
use Rattle.uc_meaning.specs.Steps.{init_from}
use Rattle.uc_meaning.specs.Checks.{init_met_from}
use Rattle.uc_operators.specs.Overflows.{first_wide}
use Rattle.uc_evaluator.proofs.Told.{told_all, gives_as}
use Rattle.uc_runs.specs.Runs.{running, ending_of}
use Rattle.uc_executions.proofs.Inits.{main_init, main_init_met, no_main, no_main_met}
use Rattle.uc_executions.proofs.running.run_init.Goals as goal

pub returns-in-Some-clause-value : goal.returns-in-Some-clause-value
returns-in-Some-clause-value c =
    gives_as (ending_of c.args.choices.now) _ _ c.init_from.result
    (ap (λ h. init_from longest_chain c.args.layout.now h (running c.args.choices.now c.args.run)) c.main_instance-here.ensures
    ∙ main_init c.args.layout.now c.in-Some.code.now (running c.args.choices.now c.args.run) (c.in-Some.ensures ∙ ap main_module c.system.ensures))
    c.init_from.ensures.value

pub returns-in-Some-clause-wide : goal.returns-in-Some-clause-wide
returns-in-Some-clause-wide c =
    told_all _ _ c.init_from.result
    (ap (λ h. init_met_from longest_chain c.args.layout.now h (running c.args.choices.now c.args.run)) c.main_instance-here.ensures
    ∙ main_init_met c.args.layout.now c.in-Some.code.now (running c.args.choices.now c.args.run) (c.in-Some.ensures ∙ ap main_module c.system.ensures))
    c.init_from.ensures.wide

pub returns-in-None-clause-value : goal.returns-in-None-clause-value
returns-in-None-clause-value c = no_main c.args.layout.now (running c.args.choices.now c.args.run) (c.in-None.ensures ∙ ap main_module c.system.ensures)

pub returns-in-None-clause-wide : goal.returns-in-None-clause-wide
returns-in-None-clause-wide c = ap first_wide (no_main_met c.args.layout.now (running c.args.choices.now c.args.run) (c.in-None.ensures ∙ ap main_module c.system.ensures))
