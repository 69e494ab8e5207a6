use Rattle.std.proofs.Common.{◌≡◌, take, true}
use Rattle.std.specs.List.{list_all}
use Rattle.uc_layout.specs.Fits.{row_fits}
use Rattle.uc_layout.proofs.interpretation.rows_fit.Given as goal

abbrev pub invariant-loop-row : goal.invariant-loop-row
invariant-loop-row l = list_all (row_fits l.function) (take l.row-index l.rows) ≡ true
