use Rattle.std.proofs.Common.{◌≡◌, ℕ, ◌<◌, true, map}
use Rattle.uc_values.specs.Values.{truth_of}
use Rattle.uc_ops.specs.Meaning.{part}
use Rattle.uc_ops.proofs.truth.all_true.Given as goal

abbrev pub invariant-loop-place : goal.invariant-loop-place
invariant-loop-place l = (k : ℕ) → k < l.place → truth_of (part (map (part l.given) l.parts) k) ≡ true
