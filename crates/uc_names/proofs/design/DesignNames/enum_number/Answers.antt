use Rattle.std.proofs.Common.{ap, ◌∙◌}
use Rattle.std.specs.Prelude.{unwrap_or}
use Rattle.uc_meaning.specs.Types.{enum_number}
use Rattle.uc_names.proofs.design.DesignNames.enum_number.Goals as goal

pub returns : goal.returns
returns c =
    c.unwrap_or.ensures ∙ ap (λ o. unwrap_or o 0) c.get.ensures ∙ c.self.invariant.enums_known c.args.place ∙ ap (λ s. enum_number s c.args.place) c.self.view_is
