use Rattle.std.proofs.Common.{◌≡◌, Some, None, ap, subst, sym, ◌∙◌}
use Rattle.uc_meaning.specs.Lookup.{System, module_named}
use Rattle.uc_names.specs.Senses.{module_in}
use Rattle.uc_cycles.specs.Numbers.{name_places}
use Rattle.uc_cycles.proofs.Steps.{instances_found, instances_missing, names_none}
use Rattle.uc_cycles.proofs.instances.instance_needs.Goals as goal

pub returns-in-None : goal.returns-in-None
returns-in-None c =
    c.new.ensures ∙ names_none c.args.numbers.now ∙ ap (name_places c.args.numbers.now) (sym (instances_missing c.args.homes.now c.args.name (subst (λ (s : System). None ≡ module_named s c.args.name) c.design.ensures c.in-None.ensures)))

pub returns-in_ok-needs-in-Some : goal.returns-in_ok-needs-in-Some
returns-in_ok-needs-in-Some c =
    c.in_ok-needs-in-Some.ensures
    ∙ ap (name_places c.args.numbers.now)
    (sym (instances_found c.args.homes.now c.args.name c.in-Some.home c.declarations_of.result.now (subst (λ (s : System). Some (module_in s.modules c.in-Some.home) ≡ module_named s c.args.name) c.design.ensures c.in-Some.ensures)
    (c.declarations_of.ensures ∙ ap (λ (s : System). (module_in s.modules c.in-Some.home).decls) c.design-in-Some.ensures)))
