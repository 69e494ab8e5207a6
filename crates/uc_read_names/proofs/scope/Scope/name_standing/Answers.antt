use Rattle.std.proofs.Common.{◌≡◌, Some, None, ap, sym, subst, ◌∙◌}
use Rattle.std.specs.Prelude.{IfOk}
use Rattle.uc_names.specs.Senses.{value_meant}
use Rattle.uc_lookup.specs.Parts.{instance_parts}
use Rattle.std.specs.Option.{option_map}
use Rattle.uc_rules.specs.Expressions.{bound_standing, module_standing, old_bound, old_valued, valued_standing}
use Rattle.uc_read_names.specs.Reading.{standing_meant}
use Rattle.uc_read_names.proofs.scope.Scope.name_standing.Goals as goal

pub returns-in-Some : goal.returns-in-Some
returns-in-Some c =
    subst (λ w. IfOk c.known_standing.result (λ s. standing_meant c.args.self.now.system.modules s ≡ w)) (ap (bound_standing c.args.self.now c.args.begin c.args.name c.args.primed) c.in-Some.ensures) c.known_standing.ensures

pub returns-in-None : goal.returns-in-None
returns-in-None c =
    subst (λ w. IfOk c.module_standing.result (λ s. standing_meant c.args.self.now.system.modules s ≡ w)) (ap (bound_standing c.args.self.now c.args.begin c.args.name c.args.primed) c.in-None.ensures) c.module_standing.ensures
