use Rattle.std.proofs.Common.{ap, ◌∙◌}
use Rattle.uc_meaning.specs.Types.{opaque_number}
use Rattle.uc_type_reader.proofs.Listed.{opaque_place}
use Rattle.uc_type_reader.proofs.tables.Tables.opaque_number.Goals as goal

pub returns : goal.returns
returns c =
    c.number_of_type.ensures
    ∙ opaque_place _ c.args.code c.args.name c.as_slice.result.now (c.as_slice.ensures ∙ c.self.invariant.opaques_listed)
    ∙ ap (λ s. opaque_number s c.args.code c.args.name) c.self.view_is
