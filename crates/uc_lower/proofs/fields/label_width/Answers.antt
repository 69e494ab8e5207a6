use Rattle.std.proofs.Common.{arith}
use Rattle.uc_values.proofs.Widths.{label_bits-least, least_width-unique, IsLeastWidth-found}
use Rattle.uc_lower.proofs.fields.label_width.Goals as goal

pub returns-then-labels-width-clause-width : goal.returns-then-labels-width-clause-width
returns-then-labels-width-clause-width c =
    least_width-unique c.args.labels c.loop-width.width _
    (IsLeastWidth-found c.args.labels c.loop-width.width (omega arith) (omega (arith, c.if-labels-width.true)) c.loop-width.invariant)
    (label_bits-least c.args.labels)

pub returns-clause-width : goal.returns-clause-width
returns-clause-width c =
    least_width-unique c.args.labels 32 _
    (IsLeastWidth-found c.args.labels 32 (omega arith) (omega (arith, c.ranges.labels.fits)) (λ other s l. c.loop-width.invariant other s (omega (arith, l))))
    (label_bits-least c.args.labels)
