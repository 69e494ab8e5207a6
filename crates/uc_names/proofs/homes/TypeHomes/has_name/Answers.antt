use Rattle.std.proofs.Common.{◌≡◌, false, subst}
use Rattle.std.specs.List.{list_any}
use Rattle.uc_meaning.specs.Lookup.{System}
use Rattle.uc_rules.specs.Names.{is_entry, names_in}
use Rattle.uc_names.specs.Senses.{module_in}
use Rattle.uc_names.proofs.InOrder.{found_names, missing_any}
use Rattle.uc_names.proofs.homes.TypeHomes.has_name.Goals as goal

pub returns-in-None : goal.returns-in-None
returns-in-None c =
    subst (λ (s : System). false ≡ list_any (is_entry c.args.name) (names_in s (module_in s.modules c.args.home))) c.self.view_is
    (missing_any _ _ c.args.home c.args.name c.self.invariant.names_known c.in-None.ensures.value)

pub returns-in-Some : goal.returns-in-Some
returns-in-Some c =
    subst (λ (s : System). c.has.result ≡ list_any (is_entry c.args.name) (names_in s (module_in s.modules c.args.home))) c.self.view_is
    (c.has.ensures _ (names_in _ (module_in _ c.args.home)) (found_names _ _ c.args.home _ c.self.invariant.names_known c.in-Some.ensures.value))
