use Rattle.uc_symstep.proofs.States.{assert_follows}
use Rattle.uc_symstep.proofs.Known.{stays_known}
use Rattle.uc_symstep.proofs.simple.assert_at.Goals as goal

pub returns-clause-ok : goal.returns-clause-ok
returns-clause-ok c = assert_follows _ _ _ _ _ _ _ _ c.requires.state c.in_ok-failed.ensures.ok c.in_ok-push.ensures.ok

pub returns-clause-known : goal.returns-clause-known
returns-clause-known c = λ supply reads h. stays_known supply _ _ c.args.s c.in_ok-failed.ensures.grown h
