use Rattle.std.proofs.Common.{arith, ◌≡◌, ◌≤◌}
use Rattle.uc_learner.proofs.Accepting.{none_more_at}
use Rattle.uc_learner.proofs.acceptance.decision_from.Goals as goal

pub loop-place-preserved : goal.loop-place-preserved
loop-place-preserved c = record {
  le = omega (arith, c.loop-place.invariant.le);
  none = none_more_at c.args.trail.now c.args.from c.loop-place.place _ _ c.in-Some.is c.loop-place.invariant.none;
}
