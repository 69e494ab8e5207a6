use Rattle.std.proofs.Common.{ap, ◌∙◌}
use Rattle.uc_meaning.specs.Cells.{function_number}
use Rattle.uc_layout.proofs.Tables.{function_place}
use Rattle.uc_layout.proofs.layout.Layout.function_number.Goals as goal

pub returns : goal.returns
returns c =
    c.place_of.ensures
    ∙ function_place _ c.args.code.now c.args.name c.as_slice.result.now (c.as_slice.ensures ∙ c.self.invariant.functions_listed)
    ∙ ap (λ s. function_number s c.args.code.now c.args.name) c.self.view_is
