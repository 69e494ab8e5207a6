use Rattle.std.proofs.Common.{◌≡◌, ◌+◌, ◌≤◌, drop}
use Rattle.uc_operators.specs.Words.{total_width}
use Rattle.uc_readings.proofs.words.check_total.Given as goal

abbrev pub invariant-loop-value : goal.invariant-loop-value
invariant-loop-value l = record {
  sum : l.total + total_width (drop l.value-index l.values) ≡ total_width l.values;
  small : l.total ≤ 64;
}
