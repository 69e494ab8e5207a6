use Rattle.uc_symstep.proofs.Runs.{step_taken, step_each}
use Rattle.uc_symstep.proofs.design.sym_step.Goals as goal

pub returns-clause-step : goal.returns-clause-step
returns-clause-step c = step_taken _ _ _ _ _ _ _ c.requires.sound c.in_ok-state.ensures.ok

pub returns-clause-each : goal.returns-clause-each
returns-clause-each c = step_each _ _ _ _ _ _ _ c.requires.sound c.len-terms.ensures.well c.in_ok-state.ensures.ok
