use Rattle.uc_flat_code.proofs.Sparing.{spares_cell}
use Rattle.uc_flat_code.proofs.reading.+spares.Goals as goal

pub spares-returns-in-Cell : goal.spares-returns-in-Cell
spares-returns-in-Cell t c = spares_cell c.args.cells.now c.args.e.now c.in-Cell.k c.has_not.result c.in-Cell.is c.has_not.ensures
