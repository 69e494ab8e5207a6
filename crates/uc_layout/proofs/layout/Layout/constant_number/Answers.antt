use Rattle.std.proofs.Common.{ap, ◌∙◌}
use Rattle.uc_meaning.specs.Cells.{constant_number}
use Rattle.uc_layout.proofs.Tables.{constant_place}
use Rattle.uc_layout.proofs.layout.Layout.constant_number.Goals as goal

pub returns : goal.returns
returns c =
    c.place_of.ensures
    ∙ constant_place _ c.args.code.now c.args.name c.as_slice.result.now (c.as_slice.ensures ∙ c.self.invariant.constants_listed)
    ∙ ap (λ s. constant_number s c.args.code.now c.args.name) c.self.view_is
