use Rattle.std.proofs.Common.{ℕ, ◌<◌, get_or}
use Rattle.uc_values.specs.declared.value.Value.{Value}
use Rattle.uc_operators.specs.Words.{IsWord}
use Rattle.uc_readings.proofs.words.check_words.Given as goal

abbrev pub invariant-loop-place : goal.invariant-loop-place
invariant-loop-place l = (k : ℕ) (d : Value) → k < l.place → IsWord (get_or l.values k d)
