use Rattle.std.proofs.Common.{sym, subst}
use Rattle.std.specs.Bool.{Decides}
use Rattle.uc_meaning.specs.Cells.{FitAll}
use Rattle.uc_layout.proofs.Fits.{fit_decided}
use Rattle.uc_layout.proofs.fitting.fit_all.Goals as goal

pub returns : goal.returns
returns c = subst (λ b. Decides b (FitAll c.args.types.now c.args.values.now)) (sym c.all_fit.ensures) (fit_decided c.args.types.now c.args.values.now)
