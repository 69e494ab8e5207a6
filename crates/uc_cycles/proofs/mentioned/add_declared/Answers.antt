use Rattle.std.proofs.Common.{◌++◌, ap, sym, ◌∙◌}
use Rattle.std.specs.Option.{option_map}
use Rattle.uc_names.specs.Senses.{declared_meant, module_in}
use Rattle.uc_rules.specs.Cycles.{entry_name}
use Rattle.uc_cycles.specs.Numbers.{listed, type_number, type_places}
use Rattle.uc_cycles.proofs.Forms.{adds_nothing, places_one}
use Rattle.uc_cycles.proofs.mentioned.add_declared.Goals as goal

pub returns-in-None : goal.returns-in-None
returns-in-None c = adds_nothing c.args.numbers.now c.args.needs.now (entry_name c.args.name (option_map (declared_meant c.args.homes.now.modules) c.args.declared)) (ap (λ o. entry_name c.args.name (option_map (declared_meant c.args.homes.now.modules) o)) c.in-None.is)

pub returns-in_ok-add_place-in-Some : goal.returns-in_ok-add_place-in-Some
returns-in_ok-add_place-in-Some c =
    c.in_ok-add_place-in-Some.ensures
    ∙ ap (λ o. c.args.needs.now ++ listed o) (c.get.ensures ∙ ap (λ x. type_number c.args.numbers.now (record { owner = x; name = c.args.name })) c.name_of-owner.ensures)
    ∙ ap (λ ns. c.args.needs.now ++ ns) (sym (places_one c.args.numbers.now ((module_in c.args.homes.now.modules c.in-Some.declared.home).name, c.args.name)))
    ∙ ap (λ o. c.args.needs.now ++ type_places c.args.numbers.now (entry_name c.args.name (option_map (declared_meant c.args.homes.now.modules) o))) (sym c.in-Some.is)
