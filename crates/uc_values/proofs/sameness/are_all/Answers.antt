use Rattle.std.proofs.Common.{arith}
use Rattle.uc_values.proofs.Agreement.{uncounted}
use Rattle.uc_values.proofs.sameness.are_all.Goals as goal

pub returns-else-width-lt128 : goal.returns-else-width-lt128
returns-else-width-lt128 c = uncounted c.args.ty.now c.in-Bv.width c.args.listed c.in-Bv.is (omega (arith, c.if-width-lt128.false)) c.ranges.listed.fits
