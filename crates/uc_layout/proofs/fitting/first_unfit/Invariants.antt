use Rattle.uc_layout.proofs.Fits.{FitFrom}
use Rattle.uc_layout.proofs.fitting.first_unfit.Given as goal

abbrev pub invariant-loop-number : goal.invariant-loop-number
invariant-loop-number l = FitFrom l.types l.values l.number
