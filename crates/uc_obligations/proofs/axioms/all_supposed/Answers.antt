use Rattle.std.proofs.Common.{arith}
use Rattle.uc_symstep.proofs.Grown.{grows_on}
use Rattle.uc_symstep.proofs.Runs.{seen_grows}
use Rattle.uc_obligations.proofs.Supposing.{supposed_none, supposed_next, supposed_end}
use Rattle.uc_obligations.proofs.Knowing.{known_state_grows}
use Rattle.uc_obligations.proofs.axioms.all_supposed.Goals as goal

pub loop-place-init : goal.loop-place-init
loop-place-init c = record { term = supposed_none c.args.f.now _ c.args.assumed c.args.last.now c.requires.assumed; known = λ supply next reads h k. h }

pub one_supposed-requires-clause-all : goal.one_supposed-requires-clause-all
one_supposed-requires-clause-all c = c.loop-place.invariant.term.truth

pub one_supposed-requires-clause-state : goal.one_supposed-requires-clause-state
one_supposed-requires-clause-state c = seen_grows _ _ _ c.args.last.now c.loop-place.invariant.term.grown c.requires.state

pub loop-place-preserved : goal.loop-place-preserved
loop-place-preserved c = record {
  term = supposed_next c.args.f.now _ _ _ _ _ c.args.assumed c.loop-place.place c.args.last.now c.requires.state (omega (arith, c.loop-place-test.true, c.len-count.ensures)) c.loop-place.invariant.term c.in_ok-more.ensures.ok;
  known = λ supply next reads h k.
      c.in_ok-more.ensures.known supply next reads (c.loop-place.invariant.known supply next reads h k) (known_state_grows supply _ _ c.args.last.now next c.loop-place.invariant.term.grown k);
}

pub returns-clause-ok : goal.returns-clause-ok
returns-clause-ok c = supposed_end c.args.f.now _ _ _ c.args.assumed c.loop-place.place c.args.last.now (omega (arith, c.loop-place-test.false, c.len-count.ensures)) c.loop-place.invariant.term

pub returns-clause-known : goal.returns-clause-known
returns-clause-known c = c.loop-place.invariant.known

pub returns-in_err-more-clause-grown : goal.returns-in_err-more-clause-grown
returns-in_err-more-clause-grown c = grows_on _ _ _ c.loop-place.invariant.term.grown c.in_err-more.ensures.grown

pub returns-clause-grown : goal.returns-clause-grown
returns-clause-grown c = c.loop-place.invariant.term.grown
