use Rattle.uc_ops.proofs.Lists.{at_place}
use Rattle.uc_symstep.proofs.Grown.{grows_on}
use Rattle.uc_symstep.proofs.Known.{known_grows}
use Rattle.uc_obligations.proofs.Terms.{seen_one, copies_one}
use Rattle.uc_obligations.proofs.Supposing.{not_supposed, one_copy, both_ready, one_supposed_is}
use Rattle.uc_obligations.proofs.Knowing.{axiom_read, one_state_known}
use Rattle.uc_obligations.proofs.axioms.one_supposed.Goals as goal

pub returns-then-copies-ne1-clause-ok : goal.returns-then-copies-ne1-clause-ok
returns-then-copies-ne1-clause-ok c = not_supposed c.args.f.now _ c.args.k c.args.all c.args.last.now c.index-formulas-k.result _ c.requires.all c.as_slice-formulas.ensures c.if-copies-ne1.true

pub sym_formula-requires-clause-states : goal.sym_formula-requires-clause-states
sym_formula-requires-clause-states c = seen_one _ _ _ _ c.from_ref.ensures.value c.requires.state

pub sym_formula-requires-clause-copies : goal.sym_formula-requires-clause-copies
sym_formula-requires-clause-copies c =
    copies_one c.args.f.now c.args.k _ _ (one_copy c.args.f.now c.args.k c.index-formulas-k.result _ c.as_slice-formulas.ensures c.if-copies-ne1.false) c.from_ref.ensures.value

pub both-requires-clause-there : goal.both-requires-clause-there
both-requires-clause-there c = (both_ready c.args.f.now _ _ c.args.k _ _ _ c.requires.there c.requires.all c.in_ok-one.ensures.ok).0

pub both-requires-clause-boolean : goal.both-requires-clause-boolean
both-requires-clause-boolean c = (both_ready c.args.f.now _ _ c.args.k _ _ _ c.requires.there c.requires.all c.in_ok-one.ensures.ok).1

pub returns-clause-ok : goal.returns-clause-ok
returns-clause-ok c =
    one_supposed_is c.args.f.now _ _ _ c.args.k _ c.args.all _ c.args.last.now _ c.requires.all c.from_ref.ensures.value
    (one_copy c.args.f.now c.args.k c.index-formulas-k.result _ c.as_slice-formulas.ensures c.if-copies-ne1.false) c.in_ok-one.ensures.ok c.in_ok-t.ensures.ok

pub returns-clause-known : goal.returns-clause-known
returns-clause-known c = λ supply next reads all last.
    let x = at_place c.args.f.now.formulas c.args.k c.requires.there in
    let truth = c.in_ok-one.ensures.known supply x.0 x.1 (axiom_read supply _ _ x.0 x.1 reads) (one_state_known supply _ _ _ next c.from_ref.ensures.value last) in
    c.in_ok-t.ensures.known supply (known_grows supply _ _ c.in_ok-one.ensures.grown _ all) truth

pub returns-in_err-t-clause-grown : goal.returns-in_err-t-clause-grown
returns-in_err-t-clause-grown c = grows_on _ _ _ c.in_ok-one.ensures.grown c.in_err-t.ensures.grown

pub returns-clause-grown : goal.returns-clause-grown
returns-clause-grown c = grows_on _ _ _ c.in_ok-one.ensures.grown c.in_ok-t.ensures.grown
