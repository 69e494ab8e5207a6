use Rattle.std.proofs.Common.{ℕ}
use Rattle.uc_flat_copies.specs.declared.trace.Start.{Start}
use Rattle.uc_flat_lines.specs.Lines.{lines_of, AreFlatJudged}
use Rattle.uc_flat_lines.specs.Joint.{AreUnrefuted}
use Rattle.uc_flat_lines.proofs.passing.all_passed.Given as goal

abbrev pub invariant-loop-k : goal.invariant-loop-k
invariant-loop-k l = (start : Start) → AreUnrefuted l.f start l.steps → (budget at : ℕ) → AreFlatJudged l.f start budget at at (lines_of l.f l.steps l.k) l.lines
