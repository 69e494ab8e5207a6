use Rattle.std.proofs.Common.{◌≡◌}
use Rattle.uc_flat_copies.specs.declared.trace.Start.TheVariants.{Initially}
use Rattle.uc_obligations.specs.Unrolling.{IsUnrolled}
use Rattle.uc_flat_lines.specs.Lines.{lines_below, AreFlatJudged}
use Rattle.uc_flat_lines.proofs.judging.judge_all.Given as goal

abbrev pub invariant-loop-steps : goal.invariant-loop-steps
invariant-loop-steps g l = IsUnrolled l.f l.terms l.steps l.run × (l.run.start ≡ Initially) × AreFlatJudged l.f Initially l.budget (g.M.Meter.total l.fn.meter) (g.M.Meter.total l.meter) (lines_below l.f l.steps) l.lines
