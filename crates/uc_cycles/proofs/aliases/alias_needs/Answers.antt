use Rattle.std.proofs.Common.{◌≡◌, Some, None, ap, subst, sym, ◌∙◌}
use Rattle.uc_meaning.specs.Lookup.{System, module_named}
use Rattle.uc_names.specs.Senses.{module_in}
use Rattle.uc_cycles.specs.Numbers.{key_name, type_places}
use Rattle.uc_cycles.proofs.Forms.{places_none}
use Rattle.uc_cycles.proofs.Steps.{steps_found, steps_missing}
use Rattle.uc_cycles.proofs.aliases.alias_needs.Goals as goal

pub returns-in-None : goal.returns-in-None
returns-in-None c =
    c.new.ensures ∙ places_none c.args.numbers.now ∙ ap (type_places c.args.numbers.now) (sym (steps_missing c.args.homes.now (key_name c.args.key) (subst (λ (s : System). None ≡ module_named s c.args.key.owner) c.design.ensures c.in-None.ensures)))

pub returns-in_ok-needs-in-Some : goal.returns-in_ok-needs-in-Some
returns-in_ok-needs-in-Some c =
    c.in_ok-needs-in-Some.ensures
    ∙ ap (type_places c.args.numbers.now)
    (sym (steps_found c.args.homes.now (key_name c.args.key) c.in-Some.home c.declared_in.result (subst (λ (s : System). Some (module_in s.modules c.in-Some.home) ≡ module_named s c.args.key.owner) c.design.ensures c.in-Some.ensures) c.declared_in.ensures))
