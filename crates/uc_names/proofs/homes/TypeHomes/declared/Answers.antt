use Rattle.std.proofs.Common.{◌≡◌, None, subst}
use Rattle.std.specs.Option.{option_map}
use Rattle.uc_meaning.specs.Lookup.{System}
use Rattle.uc_rules.specs.Names.{type_named}
use Rattle.uc_names.specs.Senses.{declared_meant, module_in}
use Rattle.uc_names.proofs.InOrder.{found_name, missing_name}
use Rattle.uc_names.proofs.homes.TypeHomes.declared.Goals as goal

pub returns-in-None : goal.returns-in-None
returns-in-None c =
    subst (λ (s : System). None ≡ type_named s (module_in s.modules c.args.home) c.args.name) c.self.view_is
    (missing_name _ _ c.args.home c.args.name c.self.invariant.names_known c.in-None.ensures.value)

pub returns-in-Some : goal.returns-in-Some
returns-in-Some c =
    subst (λ (s : System). option_map (declared_meant s.modules) c.declared_type.result ≡ type_named s (module_in s.modules c.args.home) c.args.name) c.self.view_is
    (found_name _ _ c.args.home _ c.args.name c.declared_type.result c.self.invariant.names_known c.in-Some.ensures.value c.declared_type.ensures)
