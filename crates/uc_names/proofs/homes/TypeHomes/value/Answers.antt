use Rattle.std.proofs.Common.{◌≡◌, None, subst}
use Rattle.std.specs.Option.{option_map}
use Rattle.uc_meaning.specs.Lookup.{System}
use Rattle.uc_rules.specs.Names.{as_value, value_named, names_in}
use Rattle.uc_names.specs.Senses.{value_meant, module_in}
use Rattle.uc_names.proofs.InOrder.{found_names, missing_fit}
use Rattle.uc_names.proofs.homes.TypeHomes.value.Goals as goal

pub returns-in-None : goal.returns-in-None
returns-in-None c =
    subst (λ (s : System). None ≡ value_named s (module_in s.modules c.args.home) c.args.name) c.self.view_is
    (missing_fit as_value _ _ c.args.home c.args.name c.self.invariant.names_known c.in-None.ensures.value)

pub returns-in-Some : goal.returns-in-Some
returns-in-Some c =
    subst (λ (s : System). option_map value_meant c.value.result ≡ value_named s (module_in s.modules c.args.home) c.args.name) c.self.view_is
    (c.value.ensures _ (names_in _ (module_in _ c.args.home)) (found_names _ _ c.args.home _ c.self.invariant.names_known c.in-Some.ensures.value))
