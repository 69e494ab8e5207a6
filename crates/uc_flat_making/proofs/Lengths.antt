-- How many cells there are.
use Rattle.std.proofs.Common.{◌≡◌, List, [], ◌∷◌, map, length, refl, arith}
use Rattle.uc_flat_making.specs.declared.cells.OwnCell.{OwnCell}
use Rattle.uc_flat_making.specs.Made.{full}

pub same_length : (cells : List OwnCell) → length (map full cells) ≡ length cells
same_length [] = refl
same_length (c ∷ cells) = omega (arith, same_length cells)
