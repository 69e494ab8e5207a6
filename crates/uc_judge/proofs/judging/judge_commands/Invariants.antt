use Rattle.std.proofs.Common.{take}
use Rattle.uc_judge.specs.Judged.{lines_in, AreCounts, AreJudged}
use Rattle.uc_judge.proofs.judging.judge_commands.Given as goal

abbrev pub invariant-loop-number : goal.invariant-loop-number
invariant-loop-number g l =
    AreJudged l.d l.budget (g.M.Meter.total l.fn.meter) (g.M.Meter.total l.meter) (lines_in l.d 0 (take l.number l.commands)) l.lines × AreCounts l.d l.commands l.number l.counts
