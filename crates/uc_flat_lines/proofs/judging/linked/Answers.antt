use Rattle.std.proofs.Common.{arith, ◌∙◌}
use Rattle.uc_flat_lines.proofs.Judged.{unrolled_to}
use Rattle.uc_flat_lines.proofs.judging.linked.Goals as goal

pub loop-steps-init : goal.loop-steps-init
loop-steps-init c = (c.in_ok-run.ensures.ok, c.in_ok-run.ensures.start)

pub loop-steps-preserved : goal.loop-steps-preserved
loop-steps-preserved c = (c.in_ok-run-2.ensures.ok, c.in_ok-run-2.ensures.start ∙ c.loop-steps.invariant.1)

pub returns-clause-run : goal.returns-clause-run
returns-clause-run c = unrolled_to c.args.f.now _ c.loop-steps.steps c.args.depth _ (omega (arith, c.loop-steps.auto, c.loop-steps-test.false)) c.loop-steps.invariant.0

pub returns-clause-start : goal.returns-clause-start
returns-clause-start c = c.loop-steps.invariant.1
