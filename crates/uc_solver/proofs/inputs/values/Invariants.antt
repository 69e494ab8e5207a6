use Rattle.std.proofs.Common.{ℕ, ◌≡◌, ◌<◌, length}
use Rattle.uc_ops.specs.Typing.{type_at}
use Rattle.uc_ops.specs.Meaning.{part}
use Rattle.uc_solver.specs.Inputs.{bits_value, word_at}
use Rattle.uc_solver.proofs.inputs.values.Given as goal

abbrev pub invariant-loop-place : goal.invariant-loop-place
invariant-loop-place l = record {
  long : length l.values.items ≡ l.place;
  same : (k : ℕ) → k < l.place → part l.values.items k ≡ bits_value (type_at l.terms k) (word_at l.words k);
}
