use Rattle.std.proofs.Common.{map, sym, ap, ◌∙◌}
use Rattle.uc_meaning.specs.Cells.{cells_of}
use Rattle.uc_flat_design.specs.Names.{names_over_cells}
use Rattle.uc_flat_code.specs.CellTypes.{cell_type_of}
use Rattle.uc_flat_making.proofs.Declared.{cells_full}
use Rattle.uc_flat_making.specs.Made.{full}
use Rattle.uc_flat_making.proofs.Answered.{over_answer}
use Rattle.uc_flat_making.proofs.making.over_cells.Goals as goal

pub returns : goal.returns
returns c =
    let system = c.args.tables.now in
    let code = c.args.code.now in
    let own = c.as_slice-2.result.now in
    over_answer (cell_type_of system code) c.as_slice.result.now (names_over_cells system code) (cells_of system) own code c.made_over.result (c.as_slice.ensures ∙ c.in_ok-names.ensures)
    (cells_full system code c.requires ∙ ap (map full) (sym (c.as_slice-2.ensures ∙ c.in_ok-cells.ensures))) c.made_over.ensures
