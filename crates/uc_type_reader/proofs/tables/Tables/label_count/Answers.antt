use Rattle.std.proofs.Common.{ap, ◌∙◌}
use Rattle.uc_meaning.specs.Expressions.{label_count}
use Rattle.uc_type_reader.proofs.Listed.{enum_count}
use Rattle.uc_type_reader.proofs.tables.Tables.label_count.Goals as goal

pub returns : goal.returns
returns c =
    c.count_at.ensures
    ∙ enum_count _ c.args.number c.as_slice.result.now (c.as_slice.ensures ∙ c.self.invariant.enums_listed)
    ∙ ap (λ s. label_count s c.args.number) c.self.view_is
