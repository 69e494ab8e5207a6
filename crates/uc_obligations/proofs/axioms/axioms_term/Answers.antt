use Rattle.std.proofs.Common.{refl, []}
use Rattle.uc_obligations.proofs.Terms.{axiom_alone, axiom_at, axiom_ready, axiom_next}
use Rattle.std.specs.Prelude.{All}
use Rattle.std.proofs.lemmas.List.Elements.{All-nil}
use Rattle.uc_symstep.specs.declared.state.SymState.{SymState}
use Rattle.uc_symstep.specs.Known.{IsKnown}
use Rattle.uc_symstep.proofs.Known.{known_grows}
use Rattle.uc_obligations.proofs.Knowing.{axiom_read}
use Rattle.uc_symstep.proofs.Grown.{grows_on}
use Rattle.uc_obligations.proofs.axioms.axioms_term.Goals as goal

pub sym_formula-requires-clause-copies : goal.sym_formula-requires-clause-copies
sym_formula-requires-clause-copies c = axiom_alone c.args.f.now c.loop-place.place c.requires.sound c.loop-place-test.true

pub both-requires-clause-there : goal.both-requires-clause-there
both-requires-clause-there c = (axiom_ready c.args.f.now c.loop-place.place _ _ _ _ _ _ [] c.requires.sound c.loop-place-test.true c.loop-place.invariant.term c.in_ok-one.ensures.ok).0

pub both-requires-clause-boolean : goal.both-requires-clause-boolean
both-requires-clause-boolean c = (axiom_ready c.args.f.now c.loop-place.place _ _ _ _ _ _ [] c.requires.sound c.loop-place-test.true c.loop-place.invariant.term c.in_ok-one.ensures.ok).1

pub loop-place-preserved : goal.loop-place-preserved
loop-place-preserved c = record {
  term = axiom_next c.args.f.now c.loop-place.place _ _ _ _ _ _ _ [] c.requires.sound c.loop-place-test.true refl c.loop-place.invariant.term c.in_ok-one.ensures.ok c.in_ok-all-2.ensures.ok;
  known = λ supply reads.
      let x = axiom_at c.args.f.now c.loop-place.place c.requires.sound c.loop-place-test.true in
      let one = c.in_ok-one.ensures.known supply x.0 x.1 (axiom_read supply _ _ x.0 x.1 reads) (All-nil (λ (s : SymState). All (IsKnown supply _) s.cells)) in
      c.in_ok-all-2.ensures.known supply (known_grows supply _ _ c.in_ok-one.ensures.grown _ (c.loop-place.invariant.known supply reads)) one;
}

pub returns-clause-known : goal.returns-clause-known
returns-clause-known c = c.loop-place.invariant.known

pub returns-in_err-one-clause-grown : goal.returns-in_err-one-clause-grown
returns-in_err-one-clause-grown c = grows_on _ _ _ c.loop-place.invariant.term.grown c.in_err-one.ensures.grown

pub returns-in_err-all-2-clause-grown : goal.returns-in_err-all-2-clause-grown
returns-in_err-all-2-clause-grown c = grows_on _ _ _ c.loop-place.invariant.term.grown (grows_on _ _ _ c.in_ok-one.ensures.grown c.in_err-all-2.ensures.grown)

pub returns-clause-grown : goal.returns-clause-grown
returns-clause-grown c = c.loop-place.invariant.term.grown
