use Rattle.std.proofs.Common.{arith}
use Rattle.uc_values.proofs.Widths.{counted-end}
use Rattle.uc_values.proofs.size.+bits.Goals as goal

pub total_bits-returns : goal.total_bits-returns
total_bits-returns t c =
    counted-end c.loop-field.total c.args.fields.now c.loop-field.field-index (omega (arith, c.loop-field-test.false)) c.loop-field.invariant.1 c.loop-field.invariant.0
