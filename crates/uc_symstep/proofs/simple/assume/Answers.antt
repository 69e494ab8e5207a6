use Rattle.std.proofs.Common.{rules, subst, sym}
use Rattle.std.specs.Prelude.{All}
use Rattle.uc_symstep.specs.Known.{IsKnown}
use Rattle.uc_symstep.proofs.Grown.{grows_on}
use Rattle.uc_symstep.proofs.States.{assume_follows, assume_ready}
use Rattle.uc_symstep.proofs.Known.{assume_known, known_grows}
use Rattle.uc_symstep.proofs.simple.assume.Goals as goal

pub both-requires-clause-boolean : goal.both-requires-clause-boolean
both-requires-clause-boolean c = assume_ready _ _ _ _ _ _ c.requires.state c.requires.fine (search rules)

pub returns-clause-ok : goal.returns-clause-ok
returns-clause-ok c = assume_follows _ _ _ _ _ _ _ _ c.requires.state (search rules) c.in_ok-path.ensures.ok

pub returns-clause-known : goal.returns-clause-known
returns-clause-known c = λ supply reads h.
    assume_known supply _ _ c.args.s _ (grows_on _ _ _ c.in_ok-t.ensures.grown c.in_ok-path.ensures.grown)
    (c.in_ok-path.ensures.known supply (known_grows supply _ _ c.in_ok-t.ensures.grown _ h.path) (c.in_ok-t.ensures.known supply reads (subst (All (IsKnown supply _)) (sym c.as_slice.ensures) h.cells))) h

pub returns-in_err-path-clause-grown : goal.returns-in_err-path-clause-grown
returns-in_err-path-clause-grown c = grows_on _ _ _ c.in_ok-t.ensures.grown c.in_err-path.ensures.grown

pub returns-clause-grown : goal.returns-clause-grown
returns-clause-grown c = grows_on _ _ _ c.in_ok-t.ensures.grown c.in_ok-path.ensures.grown
