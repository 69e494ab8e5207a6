use Rattle.std.specs.Option.{option_copied}
use Rattle.uc_obligations.proofs.Read.{never_fits}
use Rattle.uc_obligations.proofs.reading.fitting.Goals as goal

pub returns-else-fits : goal.returns-else-fits
returns-else-fits c = never_fits c.args.ty.now (option_copied c.args.given) c.in_ok-value.value c.in_ok-value.ensures c.if-fits.ensures
