use Rattle.std.proofs.Common.{sym, arith}
use Rattle.uc_values.proofs.Words.{shifted_left-out}
use Rattle.uc_values.proofs.word.shift_left.Goals as goal

pub returns-then-amount-from : goal.returns-then-amount-from
returns-then-amount-from c = sym (shifted_left-out c.args.width c.args.a c.args.amount (omega (arith, c.if-amount-from.true, c.from.ensures)))
