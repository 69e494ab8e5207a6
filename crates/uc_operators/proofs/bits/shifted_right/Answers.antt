use Rattle.std.proofs.Common.{sym}
use Rattle.uc_values.proofs.Words.{shifted-out}
use Rattle.uc_operators.proofs.bits.shifted_right.Goals as goal

pub returns-then-amount-ge64 : goal.returns-then-amount-ge64
returns-then-amount-ge64 c = sym (shifted-out c.args.bits 64 c.args.amount c.ranges.bits.fits c.if-amount-ge64.true)
