use Rattle.std.proofs.Common.{arith}
use Rattle.uc_values.proofs.Widths.{label_bits-least, least_width-unique, IsLeastWidth-found}
use Rattle.uc_values.proofs.size.label_bits.Goals as goal

pub returns-then-from-width-clause-count : goal.returns-then-from-width-clause-count
returns-then-from-width-clause-count c =
    least_width-unique c.args.labels c.loop-width.width _
    (IsLeastWidth-found c.args.labels c.loop-width.width (omega arith) (omega (arith, c.if-from-width.true, c.from.ensures)) c.loop-width.invariant)
    (label_bits-least c.args.labels)

pub returns-clause-count : goal.returns-clause-count
returns-clause-count c =
    least_width-unique c.args.labels 32 _
    (IsLeastWidth-found c.args.labels 32 (omega arith) (omega (arith, c.ranges.labels.fits)) (λ other s l. c.loop-width.invariant other s (omega (arith, l))))
    (label_bits-least c.args.labels)
