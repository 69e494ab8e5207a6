use Rattle.std.proofs.Common.{◌≡◌, ◌++◌, drop, map}
use Rattle.uc_flat_design.specs.Names.{without_cell}
use Rattle.uc_flat_making.proofs.names.without_cells.Given as goal

abbrev pub invariant-loop-meant : goal.invariant-loop-meant
invariant-loop-meant l = l.all ++ map without_cell (drop l.meant-index l.names) ≡ map without_cell l.names
