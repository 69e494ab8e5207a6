use Rattle.std.proofs.Common.{arith, ◌∙◌}
use Rattle.uc_flat_copies.specs.declared.trace.Start.TheVariants.{Initially}
use Rattle.uc_obligations.proofs.Unrollings.{unrolled_grows}
use Rattle.uc_flat_lines.proofs.Judged.{lines_begin, lines_more, lines_last, begun_as}
use Rattle.uc_flat_lines.proofs.judging.judge_all.Goals as goal

pub loop-steps-init : goal.loop-steps-init
loop-steps-init g c = (c.in_ok-run.ensures.ok, c.in_ok-run.ensures.start, lines_begin c.args.f.now Initially c.args.budget _ _ c.new-lines.ensures)

pub advance-requires-clause-unrolled : goal.advance-requires-clause-unrolled
advance-requires-clause-unrolled g c = unrolled_grows c.args.f.now _ _ c.loop-steps.steps _ c.in_ok-more.ensures.grown c.loop-steps.invariant.0

pub loop-steps-preserved : goal.loop-steps-preserved
loop-steps-preserved g c = (
  c.in_ok-run-2.ensures.ok,
  c.in_ok-run-2.ensures.start ∙ c.loop-steps.invariant.1,
  lines_more c.args.f.now Initially c.args.budget _ _ _ c.loop-steps.steps _ _ _ c.loop-steps.invariant.2
      (begun_as c.args.f.now _ Initially c.args.budget _ _ _ _ c.loop-steps.invariant.1 c.in_ok-more.ensures.judged) c.in_ok-append.ensures,
)

pub returns-clause-judged : goal.returns-clause-judged
returns-clause-judged g c =
    lines_last c.args.f.now Initially c.args.budget _ _ _ c.args.depth c.loop-steps.steps _ _ _ c.loop-steps.invariant.2 (omega (arith, c.loop-steps.auto)) c.loop-steps-test.false
    (begun_as c.args.f.now _ Initially c.args.budget _ _ _ _ c.loop-steps.invariant.1 c.in_ok-last.ensures.judged) c.in_ok-append-2.ensures
