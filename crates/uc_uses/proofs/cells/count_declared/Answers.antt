use Rattle.uc_uses.proofs.Counting.{counts_none, counts_same}
use Rattle.uc_uses.proofs.NamedCells.{names_are, no_cells}
use Rattle.uc_uses.proofs.cells.count_declared.Goals as goal

pub returns-in-Variables : goal.returns-in-Variables
returns-in-Variables c s here place = counts_same _ _ _ _ _ _ (c.count_names.ensures here place) (names_are s here c.args.declaration.now _ _ _ _ _ c.in-Variables.is c.as_slice.ensures)

pub returns-in_default : goal.returns-in_default
returns-in_default c s here place = counts_none _ _ _ (no_cells s here c.args.declaration.now c.in_default.not-Variables)
