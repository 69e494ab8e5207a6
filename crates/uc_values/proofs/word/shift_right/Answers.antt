use Rattle.std.proofs.Common.{sym}
use Rattle.uc_values.proofs.Words.{shifted-out}
use Rattle.uc_values.proofs.word.shift_right.Goals as goal

pub returns-then-amount-ge64 : goal.returns-then-amount-ge64
returns-then-amount-ge64 c = sym (shifted-out c.args.a 64 c.args.amount c.ranges.a.fits c.if-amount-ge64.true)
