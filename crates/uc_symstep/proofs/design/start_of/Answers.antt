use Rattle.uc_symstep.proofs.Runs.{starts_in, init_fine, further_typed, types_valid}
use Rattle.uc_symstep.proofs.Known.{start_of_known}
use Rattle.uc_symstep.proofs.design.start_of.Goals as goal

pub start-requires-clause-valid : goal.start-requires-clause-valid
start-requires-clause-valid c = types_valid _ _ c.requires.types c.requires.sound

pub start-requires-clause-typed : goal.start-requires-clause-typed
start-requires-clause-typed c = further_typed c.args.f.now _ _ c.requires.types c.as_slice-further.ensures c.requires.sound

pub start-requires-clause-fine : goal.start-requires-clause-fine
start-requires-clause-fine c = init_fine c.args.f.now _ _ _ c.requires.types c.as_slice-further.ensures c.as_slice.ensures c.requires.sound

pub returns-clause-ok : goal.returns-clause-ok
returns-clause-ok c = starts_in _ _ c.args.f.now _ _ _ _ _ _ c.requires.types c.as_slice-further.ensures c.as_slice.ensures c.in_ok-started.ensures.ok

pub returns-clause-known : goal.returns-clause-known
returns-clause-known c = start_of_known c.args.f.now _ _ _ _ _ _ _ _ c.requires.types c.as_slice-further.ensures c.as_slice.ensures c.in_ok-started.ensures.known
