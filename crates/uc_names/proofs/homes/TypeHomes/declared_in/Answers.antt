use Rattle.std.proofs.Common.{◌≡◌, None, subst}
use Rattle.std.specs.Option.{option_map}
use Rattle.uc_meaning.specs.Lookup.{System}
use Rattle.uc_rules.specs.Names.{type_of_module}
use Rattle.uc_names.specs.Senses.{declared_meant, module_in}
use Rattle.uc_names.proofs.InOrder.{found_own, missing_own}
use Rattle.uc_names.proofs.homes.TypeHomes.declared_in.Goals as goal

pub returns-in-None : goal.returns-in-None
returns-in-None c =
    subst (λ (s : System). None ≡ type_of_module (module_in s.modules c.args.home) c.args.name) c.self.view_is
    (missing_own c.self.inside.design _ c.args.home c.args.name c.self.invariant.own_known c.in-None.ensures.value)

pub returns-in-Some : goal.returns-in-Some
returns-in-Some c =
    subst (λ (s : System). option_map (declared_meant s.modules) c.get-in-Some.result ≡ type_of_module (module_in s.modules c.args.home) c.args.name) c.self.view_is
    (found_own c.self.inside.design _ c.args.home _ c.args.name c.get-in-Some.result c.self.invariant.own_known c.in-Some.ensures.value c.get-in-Some.ensures)
