use Rattle.std.proofs.Common.{◌≡◌, subst}
use Rattle.std.specs.Prelude.{nat_eq}
use Rattle.std.specs.Option.{option_map}
use Rattle.uc_meaning.specs.Lookup.{System, module_named}
use Rattle.uc_names.specs.Senses.{module_in}
use Rattle.uc_names.proofs.FirstEntries.{first_found}
use Rattle.uc_names.proofs.design.DesignNames.module_named.Goals as goal

pub returns : goal.returns
returns c =
    subst (λ (s : System). option_map (module_in s.modules) c.get.result ≡ module_named s c.args.name) c.self.view_is
    (first_found (λ x m. nat_eq m.name x) (module_in _) _ _ c.args.name _ c.self.invariant.modules_known c.get.ensures)
