use Rattle.std.proofs.Common.{arith}
use Rattle.uc_symstep.proofs.Grown.{grows_on}
use Rattle.uc_obligations.proofs.Unrollings.{unrolled_grows}
use Rattle.uc_flat_lines.proofs.Gathering.{gathered_begin, gathered_turn, gathered_end}
use Rattle.uc_flat_lines.proofs.joint.without_goals.Goals as goal

pub loop-k-init : goal.loop-k-init
loop-k-init c = record { gathered = gathered_begin c.args.f.now c.args.run.now.start c.args.steps c.args.terms.now c.args.given c.requires.given; known = λ reads h. h }

pub without_goal-requires-clause-unrolled : goal.without_goal-requires-clause-unrolled
without_goal-requires-clause-unrolled c = unrolled_grows c.args.f.now _ _ c.args.steps c.args.run.now c.loop-k.invariant.gathered.grown c.requires.unrolled

pub without_goal-requires-clause-there : goal.without_goal-requires-clause-there
without_goal-requires-clause-there c = omega (arith, c.loop-k-test.true, c.len-count.ensures)

pub without_goal-requires-clause-given : goal.without_goal-requires-clause-given
without_goal-requires-clause-given c = c.loop-k.invariant.gathered.truth

pub loop-k-preserved : goal.loop-k-preserved
loop-k-preserved c = record {
  gathered = gathered_turn c.args.f.now c.args.run.now.start c.args.steps c.loop-k.k _ _ _ c.args.given _ _ c.in_ok-more.ensures.grown c.in_ok-more.ensures.truth c.in_ok-more.ensures.kept c.in_ok-more.ensures.missed c.loop-k.invariant.gathered;
  known = λ reads h. c.in_ok-more.ensures.known reads (c.loop-k.invariant.known reads h);
}

pub returns-clause-truth : goal.returns-clause-truth
returns-clause-truth c = c.loop-k.invariant.gathered.truth

pub returns-clause-kept : goal.returns-clause-kept
returns-clause-kept c = c.loop-k.invariant.gathered.kept

pub returns-clause-missed : goal.returns-clause-missed
returns-clause-missed c = gathered_end c.args.f.now c.args.run.now.start c.args.steps c.loop-k.k _ _ c.args.given _ (omega (arith, c.loop-k-test.false, c.len-count.ensures)) c.loop-k.invariant.gathered

pub returns-clause-known : goal.returns-clause-known
returns-clause-known c = c.loop-k.invariant.known

pub returns-clause-grown : goal.returns-clause-grown
returns-clause-grown c = c.loop-k.invariant.gathered.grown

pub returns-in_err-more-clause-grown : goal.returns-in_err-more-clause-grown
returns-in_err-more-clause-grown c = grows_on _ _ _ c.loop-k.invariant.gathered.grown c.in_err-more.ensures.grown
