use Rattle.std.proofs.Common.{sym}
use Rattle.uc_layout.proofs.Fits.{fit_more, fit_broken}
use Rattle.uc_layout.proofs.fitting.first_unfit.Goals as goal

pub returns-then-not-fits_at : goal.returns-then-not-fits_at
returns-then-not-fits_at c =
    fit_broken c.args.types.now c.args.values.now c.loop-number.number c.index-types-number.result c.index-types-number.result c.loop-number.invariant c.loop-number-test.true c.index-types-number.is (sym c.if-not-fits_at.ensures)

pub loop-number-preserved : goal.loop-number-preserved
loop-number-preserved c =
    fit_more c.args.types.now c.args.values.now c.loop-number.number c.index-types-number.result c.index-types-number.result c.loop-number.invariant c.loop-number-test.true c.index-types-number.is (sym c.if-not-fits_at.ensures)
