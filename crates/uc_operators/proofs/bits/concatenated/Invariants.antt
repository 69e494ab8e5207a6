use Rattle.std.proofs.Common.{◌≡◌, ◌+◌, ◌≤◌, drop}
use Rattle.uc_values.specs.Values.{width_in}
use Rattle.uc_meaning.specs.Operators.{chained_from, chained, concatenated}
use Rattle.uc_operators.specs.Words.{IsWord, total_width}
use Rattle.uc_operators.proofs.bits.concatenated.Given as goal

abbrev pub invariant-loop-place : goal.invariant-loop-place
invariant-loop-place l = record {
  word : IsWord l.total;
  width : width_in l.total + total_width (drop l.place l.values) ≤ 64;
  value : chained_from concatenated l.total (drop l.place l.values) ≡ chained concatenated l.values;
}
