use Rattle.std.proofs.Common.{rules, refl, subst, sym}
use Rattle.std.specs.Prelude.{All}
use Rattle.uc_symstep.specs.Known.{IsKnown}
use Rattle.uc_symstep.proofs.Branches.{open_ready, open_ready_2, opens}
use Rattle.uc_symstep.proofs.Grown.{grows_on}
use Rattle.uc_symstep.proofs.Known.{arms_known, known_grows}
use Rattle.uc_symstep.proofs.branch.arm_terms.Goals as goal

pub both-requires-clause-boolean : goal.both-requires-clause-boolean
both-requires-clause-boolean c = open_ready _ _ _ _ _ _ _ _ c.requires.state c.requires.fine (search rules) c.in_ok-negation.ensures.ok

pub both-requires-2-clause-boolean : goal.both-requires-2-clause-boolean
both-requires-2-clause-boolean c = open_ready_2 _ _ _ _ c.args.types.now c.args.e.now _ _ _ _ c.requires.state (search rules) c.in_ok-negation.ensures.ok c.in_ok-inner.ensures.ok

pub returns-clause-ok : goal.returns-clause-ok
returns-clause-ok c = opens _ _ _ _ _ _ _ _ _ _ _ _ _ c.requires.state c.requires.fine (search rules) c.in_ok-negation.ensures.ok c.in_ok-inner.ensures.ok c.in_ok-other.ensures.ok refl

pub returns-clause-known : goal.returns-clause-known
returns-clause-known c = λ supply reads h.
    let later = grows_on _ _ _ c.in_ok-negation.ensures.grown (grows_on _ _ _ c.in_ok-inner.ensures.grown c.in_ok-other.ensures.grown) in
    arms_known supply _ _ c.args.s.now _ _ _ _ (grows_on _ _ _ c.in_ok-condition.ensures.grown later) refl
    (known_grows supply _ _ later _ (c.in_ok-condition.ensures.known supply reads (subst (All (IsKnown supply _)) (sym c.as_slice.ensures) h.cells))) h

pub returns-in_err-negation-clause-grown : goal.returns-in_err-negation-clause-grown
returns-in_err-negation-clause-grown c = grows_on _ _ _ c.in_ok-condition.ensures.grown c.in_err-negation.ensures.grown

pub returns-in_err-inner-clause-grown : goal.returns-in_err-inner-clause-grown
returns-in_err-inner-clause-grown c = grows_on _ _ _ c.in_ok-condition.ensures.grown (grows_on _ _ _ c.in_ok-negation.ensures.grown c.in_err-inner.ensures.grown)

pub returns-in_err-other-clause-grown : goal.returns-in_err-other-clause-grown
returns-in_err-other-clause-grown c =
    grows_on _ _ _ c.in_ok-condition.ensures.grown (grows_on _ _ _ c.in_ok-negation.ensures.grown (grows_on _ _ _ c.in_ok-inner.ensures.grown c.in_err-other.ensures.grown))

pub returns-clause-grown : goal.returns-clause-grown
returns-clause-grown c =
    grows_on _ _ _ c.in_ok-condition.ensures.grown (grows_on _ _ _ c.in_ok-negation.ensures.grown (grows_on _ _ _ c.in_ok-inner.ensures.grown c.in_ok-other.ensures.grown))
