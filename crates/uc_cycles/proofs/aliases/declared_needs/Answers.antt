use Rattle.std.proofs.Common.{ap, sym, ◌∙◌}
use Rattle.std.specs.Option.{option_map}
use Rattle.uc_names.specs.Senses.{declared_meant}
use Rattle.uc_rules.specs.Cycles.{alias_steps_in}
use Rattle.uc_cycles.specs.Numbers.{type_places}
use Rattle.uc_cycles.proofs.Forms.{places_none}
use Rattle.uc_cycles.proofs.aliases.declared_needs.Goals as goal

pub returns-in-None : goal.returns-in-None
returns-in-None c = c.new.ensures ∙ places_none c.args.numbers.now ∙ ap (λ o. type_places c.args.numbers.now (alias_steps_in c.args.homes.now (option_map (declared_meant c.args.homes.now.modules) o))) (sym c.in-None.is)

pub returns-in_ok-needs-in-Some : goal.returns-in_ok-needs-in-Some
returns-in_ok-needs-in-Some c = c.in_ok-needs-in-Some.ensures ∙ ap (λ o. type_places c.args.numbers.now (alias_steps_in c.args.homes.now (option_map (declared_meant c.args.homes.now.modules) o))) (sym c.in-Some.is)
