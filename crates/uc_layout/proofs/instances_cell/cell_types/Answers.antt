use Rattle.std.proofs.Common.{ap, ◌∙◌, sym, map}
use Rattle.uc_meaning.proofs.Equations.{map-map}
use Rattle.uc_layout.specs.Instances.{cell_meant}
use Rattle.uc_layout.proofs.Listed.{ok_as}
use Rattle.uc_layout.proofs.instances_cell.cell_types.Goals as goal

pub returns : goal.returns
returns c = ok_as c.types_of.result (sym (map-map (λ c'. c'.type) cell_meant c.in_ok-cells.cells) ∙ ap (map (λ c'. c'.type)) c.in_ok-cells.ensures) c.types_of.ensures
