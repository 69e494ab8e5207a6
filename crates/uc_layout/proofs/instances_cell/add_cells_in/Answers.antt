use Rattle.std.proofs.Common.{◌++◌, map, ap, ◌∙◌, sym}
use Rattle.std.specs.List.{flat_map}
use Rattle.uc_meaning.specs.Cells.{cells_in}
use Rattle.uc_layout.specs.Instances.{instance_meant, cell_meant, named_cell}
use Rattle.uc_layout.proofs.Listed.{named_all}
use Rattle.uc_layout.proofs.instances_cell.add_cells_in.Goals as goal

pub returns-in_ok-add_cells-in-Variables : goal.returns-in_ok-add_cells-in-Variables
returns-in_ok-add_cells-in-Variables c =
    c.in_ok-add_cells-in-Variables.ensures
    ∙ ap (λ ys. map cell_meant c.args.cells.now ++ ys)
    (ap (flat_map (λ i. named_cell c.args.tables.now (instance_meant c.args.here.now) c.in-Variables.kind c.in-Variables.ty i.name)) c.as_slice.ensures
    ∙ named_all c.args.tables.now (instance_meant c.args.here.now) c.in-Variables.kind c.in-Variables.ty c.in-Variables.names
    ∙ sym (ap (cells_in c.args.tables.now (instance_meant c.args.here.now)) c.in-Variables.is))
