use Rattle.std.proofs.Common.{◌≡◌, drop}
use Rattle.uc_layout.specs.Fits.{tables_fit}
use Rattle.uc_layout.proofs.interpretation.tables_fit.Given as goal

abbrev pub invariant-loop-place : goal.invariant-loop-place
invariant-loop-place l = tables_fit (drop l.place l.functions) (drop l.place l.tables) ≡ tables_fit l.functions l.tables
