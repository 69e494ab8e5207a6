use Rattle.std.proofs.Common.{ℕ, ◌≤◌, ◌<◌, ◌^◌}
use Rattle.uc_lower.proofs.fields.label_width.Given as goal

abbrev pub invariant-loop-width : goal.invariant-loop-width
invariant-loop-width l = (other : ℕ) → 1 ≤ other → other < l.width → 2 ^ other < l.labels
