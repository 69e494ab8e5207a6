use Rattle.std.proofs.Common.{ap, ◌∙◌}
use Rattle.uc_meaning.specs.Types.{enum_number}
use Rattle.uc_type_reader.proofs.Listed.{enum_place}
use Rattle.uc_type_reader.proofs.tables.Tables.enum_number.Goals as goal

pub returns : goal.returns
returns c =
    c.number_of_place.ensures
    ∙ enum_place _ c.args.place c.as_slice.result.now (c.as_slice.ensures ∙ c.self.invariant.enums_listed)
    ∙ ap (λ s. enum_number s c.args.place) c.self.view_is
