use Rattle.uc_symstep.proofs.Grown.{grows_on}
use Rattle.uc_obligations.proofs.Unrollings.{state_ready, state_later, assumed_ready, advanced_is}
use Rattle.uc_obligations.proofs.Knowing.{advanced_known}
use Rattle.uc_obligations.proofs.unrolling.advance.Goals as goal

pub more_assumed-requires-clause-assumed : goal.more_assumed-requires-clause-assumed
more_assumed-requires-clause-assumed c = assumed_ready c.args.f.now _ c.args.steps _ c.requires.unrolled

pub more_assumed-requires-clause-state : goal.more_assumed-requires-clause-state
more_assumed-requires-clause-state c = state_ready c.args.f.now _ c.args.steps _ _ _ c.requires.unrolled c.as_slice-so_far.ensures c.index-so_far-steps.is

pub sym_step-requires-clause-state : goal.sym_step-requires-clause-state
sym_step-requires-clause-state c = state_later c.args.f.now _ _ c.args.steps _ _ _ c.in_ok-assumed.ensures.grown c.requires.unrolled c.as_slice-so_far.ensures c.index-so_far-steps.is

pub returns-clause-ok : goal.returns-clause-ok
returns-clause-ok c =
    advanced_is c.args.f.now _ _ _ _ c.args.steps _ _ _ _ _ _ _ _ c.requires.unrolled c.as_slice-so_far.ensures c.index-so_far-steps.is c.in_ok-assumed.ensures.ok c.in_ok-state.ensures.ok c.in_ok-state-2.ensures.ok c.in_ok-push.ensures.ok
    (advanced_known c.args.f.now _ _ _ _ c.args.steps _ _ _ _ _ _ c.in_ok-state.state c.in_ok-state-2.state c.requires.unrolled c.as_slice-so_far.ensures c.index-so_far-steps.is c.in_ok-assumed.ensures.grown c.in_ok-state.ensures.grown c.in_ok-state-2.ensures.grown
    c.in_ok-assumed.ensures.known c.in_ok-state.ensures.known c.in_ok-state-2.ensures.known c.in_ok-push.ensures.ok)

pub returns-clause-grown : goal.returns-clause-grown
returns-clause-grown c = grows_on _ _ _ c.in_ok-assumed.ensures.grown (grows_on _ _ _ c.in_ok-state.ensures.grown c.in_ok-state-2.ensures.grown)
