use Rattle.std.proofs.Common.{rules}
use Rattle.uc_symstep.proofs.States.{assert_ready, failing_term}
use Rattle.uc_symstep.proofs.Grown.{grows_on}
use Rattle.uc_symstep.proofs.simple.failing.Goals as goal

pub both-requires-clause-boolean : goal.both-requires-clause-boolean
both-requires-clause-boolean c =
    let r = assert_ready _ _ _ _ _ c.args.e.now _ _ c.requires.state (search rules) c.in_ok-negation.ensures.ok in
    (r.1, r.2)

pub returns-clause-ok : goal.returns-clause-ok
returns-clause-ok c = failing_term _ _ _ _ _ _ _ _ _ _ c.requires.state (search rules) c.in_ok-negation.ensures.ok c.in_ok-failed.ensures.ok

pub returns-in_err-negation-clause-grown : goal.returns-in_err-negation-clause-grown
returns-in_err-negation-clause-grown c = grows_on _ _ _ c.in_ok-t.ensures.grown c.in_err-negation.ensures.grown

pub returns-in_err-failed-clause-grown : goal.returns-in_err-failed-clause-grown
returns-in_err-failed-clause-grown c = grows_on _ _ _ c.in_ok-t.ensures.grown (grows_on _ _ _ c.in_ok-negation.ensures.grown c.in_err-failed.ensures.grown)

pub returns-clause-grown : goal.returns-clause-grown
returns-clause-grown c = grows_on _ _ _ c.in_ok-t.ensures.grown (grows_on _ _ _ c.in_ok-negation.ensures.grown c.in_ok-failed.ensures.grown)
