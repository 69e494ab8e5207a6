use Rattle.std.proofs.Common.{◌≡◌, ap, ◌∙◌}
use Rattle.uc_meaning.specs.Lookup.{System}
use Rattle.uc_meaning.specs.Types.{opaque_number}
use Rattle.uc_names.specs.Senses.{module_in}
use Rattle.uc_names.proofs.homes.TypeHomes.opaque_number.Goals as goal

pub returns : goal.returns
returns c =
    c.number.ensures _ c.self.invariant.opaques_known
    ∙ ap (λ s. opaque_number s c.name_of.result c.args.name) c.self.view_is
    ∙ ap (λ n. opaque_number c.args.self.now n c.args.name) c.name_of.ensures
