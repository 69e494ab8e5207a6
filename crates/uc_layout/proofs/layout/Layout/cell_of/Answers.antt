use Rattle.std.proofs.Common.{ap, ◌∙◌}
use Rattle.uc_meaning.specs.Cells.{cell_of}
use Rattle.uc_layout.proofs.Tables.{cell_place}
use Rattle.uc_layout.proofs.layout.Layout.cell_of.Goals as goal

pub returns : goal.returns
returns c =
    c.place_of.ensures
    ∙ cell_place _ c.args.path.now c.args.name c.as_slice.result.now (c.as_slice.ensures ∙ c.self.invariant.cells_listed)
    ∙ ap (λ s. cell_of s c.args.path.now c.args.name) c.self.view_is
