use Rattle.uc_symstep.proofs.Runs.{steps_in, step_fine, seen_in}
use Rattle.uc_symstep.proofs.Known.{step_of_known}
use Rattle.uc_symstep.proofs.design.step_of.Goals as goal

pub step_on-requires-clause-state : goal.step_on-requires-clause-state
step_on-requires-clause-state c = seen_in _ c.args.f.now _ _ c.requires.types c.requires.state

pub step_on-requires-clause-fine : goal.step_on-requires-clause-fine
step_on-requires-clause-fine c = step_fine _ _ _ _ c.requires.types c.requires.both c.as_slice.ensures c.requires.sound

pub returns-clause-ok : goal.returns-clause-ok
returns-clause-ok c = steps_in _ _ c.args.f.now _ _ _ _ _ _ c.requires.types c.as_slice.ensures c.in_ok-stepped.ensures.ok

pub returns-clause-known : goal.returns-clause-known
returns-clause-known c = step_of_known c.args.f.now _ _ _ _ _ _ _ _ _ _ _ c.requires.types c.requires.both c.as_slice.ensures c.in_ok-stepped.ensures.known
