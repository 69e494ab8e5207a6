use Rattle.std.proofs.Common.{◌≡◌, drop}
use Rattle.uc_layout.specs.Fits.{all_fit}
use Rattle.uc_layout.proofs.fitting.all_fit.Given as goal

abbrev pub invariant-loop-place : goal.invariant-loop-place
invariant-loop-place l = all_fit (drop l.place l.types) (drop l.place l.values) ≡ all_fit l.types l.values
