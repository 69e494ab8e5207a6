use Rattle.std.proofs.Common.{◌∙◌, sym, arith, refl}
use Rattle.uc_flat_copies.specs.declared.trace.Start.TheVariants.{Initially}
use Rattle.uc_symstep.specs.Known.{supply_from}
use Rattle.uc_symstep.proofs.Grown.{grows_not}
use Rattle.uc_obligations.proofs.Terms.{truth_is}
use Rattle.uc_obligations.proofs.Unrollings.{unrolled_grows}
use Rattle.uc_flat_lines.proofs.Judged.{unrolled_to}
use Rattle.uc_flat_lines.proofs.Together.{moments_begin, moments_turn, moments_as, moments_to, moments_hit}
use Rattle.uc_flat_lines.proofs.moments.joint_goal_up_to.Goals as goal

pub loop-steps-init : goal.loop-steps-init
loop-steps-init c = record {
  run = unrolled_grows c.args.f.now _ _ 0 _ c.in_ok-all.ensures.grown c.in_ok-run.ensures.ok;
  start = c.in_ok-run.ensures.start;
  gathered = moments_begin c.args.f.now _ _ _ (truth_is _ _ _ _ c.in_ok-all.ensures.ok) c.in_ok-all.ensures.known;
}

pub without_goals-requires-clause-given : goal.without_goals-requires-clause-given
without_goals-requires-clause-given c = c.loop-steps.invariant.gathered.truth

pub advance-requires-clause-unrolled : goal.advance-requires-clause-unrolled
advance-requires-clause-unrolled c = unrolled_grows c.args.f.now _ _ c.loop-steps.steps _ c.in_ok-more.ensures.grown c.loop-steps.invariant.run

pub loop-steps-preserved : goal.loop-steps-preserved
loop-steps-preserved c = record {
  run = c.in_ok-run-2.ensures.ok;
  start = c.in_ok-run-2.ensures.start ∙ c.loop-steps.invariant.start;
  gathered = moments_as c.args.f.now _ _ _ _ _ (sym c.in_ok-run-2.ensures.start)
      (moments_turn c.args.f.now _ c.loop-steps.steps _ _ _ _ _ c.in_ok-run-2.ensures.grown c.in_ok-more.ensures.truth c.in_ok-more.ensures.kept c.in_ok-more.ensures.missed c.in_ok-more.ensures.known c.loop-steps.invariant.gathered);
}

pub without_goals-requires-2-clause-unrolled : goal.without_goals-requires-2-clause-unrolled
without_goals-requires-2-clause-unrolled c = unrolled_to c.args.f.now _ c.loop-steps.steps c.args.depth _ (omega (arith, c.loop-steps.auto, c.loop-steps-test.false)) c.loop-steps.invariant.run

pub without_goals-requires-2-clause-given : goal.without_goals-requires-2-clause-given
without_goals-requires-2-clause-given c = c.loop-steps.invariant.gathered.truth

pub negated-requires-clause-there : goal.negated-requires-clause-there
negated-requires-clause-there c = c.in_ok-last.ensures.truth.there

pub negated-requires-clause-boolean : goal.negated-requires-clause-boolean
negated-requires-clause-boolean c = c.in_ok-last.ensures.truth.typed

pub returns-clause-truth : goal.returns-clause-truth
returns-clause-truth c = truth_is _ _ _ _ c.in_ok-any.ensures.ok

pub returns-clause-hit : goal.returns-clause-hit
returns-clause-hit c =
    let gathered = moments_to c.args.f.now _ c.loop-steps.steps c.args.depth _ _ (omega (arith, c.loop-steps.auto, c.loop-steps-test.false)) c.loop-steps.invariant.gathered in
    let all = moments_turn c.args.f.now _ c.args.depth _ _ _ _ _ (grows_not _ _ refl) c.in_ok-last.ensures.truth c.in_ok-last.ensures.kept c.in_ok-last.ensures.missed c.in_ok-last.ensures.known gathered in
    moments_hit c.args.f.now Initially c.args.depth _ _ _ _ (moments_as c.args.f.now _ Initially _ _ _ c.loop-steps.invariant.start all) c.in_ok-any.ensures.ok

pub returns-clause-known : goal.returns-clause-known
returns-clause-known c = λ reads.
    let supply = supply_from c.args.f.now c.loop-steps.run.start c.args.depth in
    let gathered = moments_to c.args.f.now _ c.loop-steps.steps c.args.depth _ _ (omega (arith, c.loop-steps.auto, c.loop-steps-test.false)) c.loop-steps.invariant.gathered in
    (supply, c.in_ok-any.ensures.known supply (c.in_ok-last.ensures.known reads (gathered.known reads)))
