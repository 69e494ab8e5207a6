use Rattle.uc_symstep.proofs.Grown.{grows_on}
use Rattle.uc_symstep.proofs.Runs.{both_there}
use Rattle.uc_obligations.proofs.Terms.{seen_one, copies_one, formula_ready, refuted_as}
use Rattle.uc_ops.proofs.Lists.{at_place}
use Rattle.uc_symstep.proofs.Known.{known_grows}
use Rattle.uc_obligations.proofs.Knowing.{axiom_read, one_state_known}
use Rattle.uc_obligations.proofs.axioms.refuted_term.Goals as goal

pub sym_formula-requires-clause-states : goal.sym_formula-requires-clause-states
sym_formula-requires-clause-states c = seen_one _ _ _ _ c.from_ref.ensures.value c.requires.state

pub sym_formula-requires-clause-copies : goal.sym_formula-requires-clause-copies
sym_formula-requires-clause-copies c = copies_one c.args.f.now c.args.k _ _ c.requires.single c.from_ref.ensures.value

pub negated-requires-clause-there : goal.negated-requires-clause-there
negated-requires-clause-there c = (formula_ready c.args.f.now c.args.k _ _ _ _ c.requires.there c.in_ok-condition.ensures.ok).there

pub negated-requires-clause-boolean : goal.negated-requires-clause-boolean
negated-requires-clause-boolean c = (formula_ready c.args.f.now c.args.k _ _ _ _ c.requires.there c.in_ok-condition.ensures.ok).typed

pub both-requires-clause-there : goal.both-requires-clause-there
both-requires-clause-there c = (both_there _ _ _ _ _ _ c.requires.assumed c.in_ok-condition.ensures.grown c.in_ok-fails.ensures.ok).0

pub both-requires-clause-boolean : goal.both-requires-clause-boolean
both-requires-clause-boolean c = (both_there _ _ _ _ _ _ c.requires.assumed c.in_ok-condition.ensures.grown c.in_ok-fails.ensures.ok).1

pub both-requires-2-clause-there : goal.both-requires-2-clause-there
both-requires-2-clause-there c = (both_there _ _ _ _ _ _ c.requires.state.path (grows_on _ _ _ c.in_ok-condition.ensures.grown c.in_ok-fails.ensures.grown) c.in_ok-unmet.ensures.ok).0

pub both-requires-2-clause-boolean : goal.both-requires-2-clause-boolean
both-requires-2-clause-boolean c = (both_there _ _ _ _ _ _ c.requires.state.path (grows_on _ _ _ c.in_ok-condition.ensures.grown c.in_ok-fails.ensures.grown) c.in_ok-unmet.ensures.ok).1

pub both-requires-3-clause-there : goal.both-requires-3-clause-there
both-requires-3-clause-there c =
    (both_there _ _ _ _ _ _ c.requires.axioms (grows_on _ _ _ c.in_ok-condition.ensures.grown (grows_on _ _ _ c.in_ok-fails.ensures.grown c.in_ok-unmet.ensures.grown)) c.in_ok-broken.ensures.ok).0

pub both-requires-3-clause-boolean : goal.both-requires-3-clause-boolean
both-requires-3-clause-boolean c =
    (both_there _ _ _ _ _ _ c.requires.axioms (grows_on _ _ _ c.in_ok-condition.ensures.grown (grows_on _ _ _ c.in_ok-fails.ensures.grown c.in_ok-unmet.ensures.grown)) c.in_ok-broken.ensures.ok).1

pub returns-clause-ok : goal.returns-clause-ok
returns-clause-ok c =
    refuted_as _ _ _ _ _ _ c.args.f.now c.args.k _ _ _ _ _ _ _ _ _ c.requires.axioms c.requires.assumed c.requires.state c.from_ref.ensures.value c.in_ok-condition.ensures.ok c.in_ok-fails.ensures.ok c.in_ok-unmet.ensures.ok c.in_ok-broken.ensures.ok
    c.in_ok-all.ensures.ok

pub returns-clause-known : goal.returns-clause-known
returns-clause-known c = λ supply next reads axioms assumed last.
    let x = at_place c.args.f.now.formulas c.args.k c.requires.there in
    let truth = c.in_ok-condition.ensures.known supply x.0 x.1 (axiom_read supply _ _ x.0 x.1 reads) (one_state_known supply _ _ _ next c.from_ref.ensures.value last) in
    let first = grows_on _ _ _ c.in_ok-condition.ensures.grown c.in_ok-fails.ensures.grown in
    let second = grows_on _ _ _ first c.in_ok-unmet.ensures.grown in
    let unmet = c.in_ok-unmet.ensures.known supply (known_grows supply _ _ first _ assumed) (c.in_ok-fails.ensures.known supply truth) in
    let broken = c.in_ok-broken.ensures.known supply (known_grows supply _ _ second _ last.path) unmet in
    c.in_ok-all.ensures.known supply (known_grows supply _ _ (grows_on _ _ _ second c.in_ok-broken.ensures.grown) _ axioms) broken

pub returns-in_err-fails-clause-grown : goal.returns-in_err-fails-clause-grown
returns-in_err-fails-clause-grown c = grows_on _ _ _ c.in_ok-condition.ensures.grown c.in_err-fails.ensures.grown

pub returns-in_err-unmet-clause-grown : goal.returns-in_err-unmet-clause-grown
returns-in_err-unmet-clause-grown c = grows_on _ _ _ c.in_ok-condition.ensures.grown (grows_on _ _ _ c.in_ok-fails.ensures.grown c.in_err-unmet.ensures.grown)

pub returns-in_err-broken-clause-grown : goal.returns-in_err-broken-clause-grown
returns-in_err-broken-clause-grown c = grows_on _ _ _ c.in_ok-condition.ensures.grown (grows_on _ _ _ c.in_ok-fails.ensures.grown (grows_on _ _ _ c.in_ok-unmet.ensures.grown c.in_err-broken.ensures.grown))

pub returns-in_err-all-clause-grown : goal.returns-in_err-all-clause-grown
returns-in_err-all-clause-grown c =
    grows_on _ _ _ c.in_ok-condition.ensures.grown (grows_on _ _ _ c.in_ok-fails.ensures.grown (grows_on _ _ _ c.in_ok-unmet.ensures.grown (grows_on _ _ _ c.in_ok-broken.ensures.grown c.in_err-all.ensures.grown)))

pub returns-clause-grown : goal.returns-clause-grown
returns-clause-grown c =
    grows_on _ _ _ c.in_ok-condition.ensures.grown (grows_on _ _ _ c.in_ok-fails.ensures.grown (grows_on _ _ _ c.in_ok-unmet.ensures.grown (grows_on _ _ _ c.in_ok-broken.ensures.grown c.in_ok-all.ensures.grown)))
