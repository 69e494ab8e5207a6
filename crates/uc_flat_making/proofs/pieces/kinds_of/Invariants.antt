use Rattle.std.proofs.Common.{◌≡◌, ◌++◌, drop, map}
use Rattle.uc_meaning.specs.Cells.{Cell}
use Rattle.uc_flat_making.specs.Made.{full}
use Rattle.uc_flat_making.proofs.pieces.kinds_of.Given as goal

abbrev pub invariant-loop-cell : goal.invariant-loop-cell
invariant-loop-cell l = map (λ (c : Cell). c.kind) (map full l.cells) ≡ l.kinds ++ map (λ (c : Cell). c.kind) (map full (drop l.cell-index l.cells))
