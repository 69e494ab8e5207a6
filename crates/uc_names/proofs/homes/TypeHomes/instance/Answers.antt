use Rattle.std.proofs.Common.{◌≡◌, None, subst}
use Rattle.std.specs.Option.{option_map}
use Rattle.uc_lookup.specs.Parts.{instance_parts}
use Rattle.uc_meaning.specs.Lookup.{System}
use Rattle.uc_rules.specs.Names.{as_instance, instance_named, names_in}
use Rattle.uc_names.specs.Senses.{module_in}
use Rattle.uc_names.proofs.InOrder.{found_names, missing_fit}
use Rattle.uc_names.proofs.homes.TypeHomes.instance.Goals as goal

pub returns-in-None : goal.returns-in-None
returns-in-None c =
    subst (λ (s : System). None ≡ instance_named s (module_in s.modules c.args.home) c.args.name) c.self.view_is
    (missing_fit as_instance _ _ c.args.home c.args.name c.self.invariant.names_known c.in-None.ensures.value)

pub returns-in-Some : goal.returns-in-Some
returns-in-Some c =
    subst (λ (s : System). option_map instance_parts c.instance.result ≡ instance_named s (module_in s.modules c.args.home) c.args.name) c.self.view_is
    (c.instance.ensures _ (names_in _ (module_in _ c.args.home)) (found_names _ _ c.args.home _ c.self.invariant.names_known c.in-Some.ensures.value))
