use Rattle.std.proofs.Common.{◌≡◌, Some, None, ap, sym, subst, ◌∙◌}
use Rattle.std.specs.Prelude.{IfOk}
use Rattle.uc_names.specs.Senses.{value_meant}
use Rattle.uc_lookup.specs.Parts.{instance_parts}
use Rattle.std.specs.Option.{option_map}
use Rattle.uc_rules.specs.Expressions.{bound_standing, module_standing, old_bound, old_valued, valued_standing}
use Rattle.uc_read_names.specs.Reading.{standing_meant}
use Rattle.uc_read_names.proofs.scope.Scope.value_standing.Goals as goal

pub returns-in-Variable : goal.returns-in-Variable
returns-in-Variable c =
    subst (λ w. IfOk c.variable_standing.result (λ s. standing_meant c.args.self.now.system.modules s ≡ w)) (ap (λ v. valued_standing c.args.self.now c.args.begin c.args.primed (value_meant v)) (sym c.in-Variable.is)) c.variable_standing.ensures

pub returns-in-Label : goal.returns-in-Label
returns-in-Label c =
    subst (λ w. IfOk c.label_standing.result (λ s. standing_meant c.args.self.now.system.modules s ≡ w)) (ap (λ v. valued_standing c.args.self.now c.args.begin c.args.primed (value_meant v)) (sym c.in-Label.is)) c.label_standing.ensures
