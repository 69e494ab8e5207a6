use Rattle.std.proofs.Common.{◌≡◌, ◌<◌, ◌^◌, drop}
use Rattle.uc_values.specs.Sizes.{total_bits, counts}
use Rattle.uc_values.proofs.Widths.{capped_sum}
use Rattle.uc_values.proofs.size.+bits.Given as goal

abbrev pub invariant-total_bits-loop-field : goal.invariant-total_bits-loop-field
invariant-total_bits-loop-field l = (capped_sum 0 (total_bits (counts l.fields)) ≡ capped_sum l.total (total_bits (counts (drop l.field-index l.fields)))) × (l.total < 2 ^ 64)
