use Rattle.uc_symstep.specs.Growing.{Grows}
use Rattle.uc_flat_lines.specs.Lines.{lines_of, AreFlatJudged}
use Rattle.uc_flat_lines.proofs.judging.judge_each.Given as goal

abbrev pub invariant-loop-k : goal.invariant-loop-k
invariant-loop-k g l = Grows l.fn.terms l.terms × AreFlatJudged l.f l.run.start l.budget (g.M.Meter.total l.fn.meter) (g.M.Meter.total l.meter) (lines_of l.f l.steps l.k) l.lines
