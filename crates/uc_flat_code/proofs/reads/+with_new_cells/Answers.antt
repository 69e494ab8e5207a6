use Rattle.uc_flat_code.proofs.NewCells.{cell_told, apply_told}
use Rattle.uc_flat_code.proofs.reads.+with_new_cells.Goals as goal

pub with_new_cells-returns-in-Cell : goal.with_new_cells-returns-in-Cell
with_new_cells-returns-in-Cell t c = cell_told c.args.first c.args.e.now c.in-Cell.k c.args.before c.with_cell.result c.in-Cell.is c.with_cell.ensures

pub with_new_cells-returns-in-Apply : goal.with_new_cells-returns-in-Apply
with_new_cells-returns-in-Apply t c =
    apply_told c.args.first c.args.e.now c.in-Apply.field-0 c.in-Apply.parts c.as_slice.result.now c.args.before c.with_all_new_cells.result c.in-Apply.is c.as_slice.ensures c.with_all_new_cells.ensures
