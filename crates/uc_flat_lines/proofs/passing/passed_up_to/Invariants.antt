use Rattle.std.proofs.Common.{ℕ, ◌≤◌}
use Rattle.uc_flat_copies.specs.declared.trace.Start.{Start}
use Rattle.uc_flat_lines.specs.Lines.{lines_below, AreFlatJudged}
use Rattle.uc_flat_lines.specs.Joint.{AreUnrefuted}
use Rattle.uc_flat_lines.proofs.passing.passed_up_to.Given as goal

abbrev pub invariant-loop-steps : goal.invariant-loop-steps
invariant-loop-steps l = (start : Start) → ((n : ℕ) → n ≤ l.depth → AreUnrefuted l.f start n) → (budget at : ℕ) → AreFlatJudged l.f start budget at at (lines_below l.f l.steps) l.lines
