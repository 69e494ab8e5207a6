use Rattle.uc_values.proofs.Fitting.{within_wide, within_narrow}
use Rattle.uc_values.proofs.fit.within.Goals as goal

pub returns-then-width-ge64 : goal.returns-then-width-ge64
returns-then-width-ge64 c = within_wide c.args.width c.args.bits c.if-width-ge64.true c.ranges.bits.fits

pub returns-else-width-ge64 : goal.returns-else-width-ge64
returns-else-width-ge64 c = within_narrow c.args.width c.args.bits
