use Rattle.std.proofs.Common.{◌≡◌}
use Rattle.uc_flat_copies.specs.declared.trace.Start.TheVariants.{Initially}
use Rattle.uc_obligations.specs.Unrolling.{IsUnrolled}
use Rattle.uc_flat_lines.proofs.Together.{Moments}
use Rattle.uc_flat_lines.proofs.moments.joint_goal_up_to.Given as goal

abbrev pub invariant-loop-steps : goal.invariant-loop-steps
invariant-loop-steps l = record {
  run : IsUnrolled l.f l.terms l.steps l.run;
  start : l.run.start ≡ Initially;
  gathered : Moments l.f l.run.start l.steps l.terms l.none;
}
