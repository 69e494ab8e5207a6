use Rattle.std.proofs.Common.{sym}
use Rattle.uc_layout.proofs.Fits.{unlike}
use Rattle.uc_layout.proofs.fitting.all_fit.Goals as goal

pub returns-then-types-values : goal.returns-then-types-values
returns-then-types-values c = sym (unlike c.args.types.now c.args.values.now c.if-types-values.true)
