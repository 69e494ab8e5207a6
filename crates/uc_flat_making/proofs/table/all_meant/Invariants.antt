use Rattle.std.proofs.Common.{◌≡◌, map}
use Rattle.uc_flat_design.specs.Names.{counted}
use Rattle.uc_flat_making.specs.Cells.{own_cells, own_constants}
use Rattle.uc_flat_making.specs.Table.{meant_by}
use Rattle.uc_flat_making.proofs.table.all_meant.Given as goal

abbrev pub invariant-loop-number : goal.invariant-loop-number
invariant-loop-number l = l.all ≡ map (meant_by l.tables l.code (own_cells l.tables l.code) (own_constants l.tables l.code)) (counted 0 l.number)
