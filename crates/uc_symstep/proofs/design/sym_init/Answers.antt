use Rattle.uc_symstep.proofs.Runs.{init_taken, init_each}
use Rattle.uc_symstep.proofs.Known.{init_known}
use Rattle.uc_symstep.proofs.design.sym_init.Goals as goal

pub returns-clause-initial : goal.returns-clause-initial
returns-clause-initial c = init_taken _ _ _ _ _ _ c.requires.sound c.in_ok-state.ensures.ok

pub returns-clause-each : goal.returns-clause-each
returns-clause-each c = init_each _ _ _ _ _ _ c.requires.sound c.in_ok-state.ensures.ok

pub returns-clause-known : goal.returns-clause-known
returns-clause-known c = init_known _ _ _ _ _ _ c.in_ok-state.ensures.known
