use Rattle.std.proofs.Common.{ap, ◌∙◌}
use Rattle.uc_rules.specs.Expressions.{old_valued}
use Rattle.uc_read_names.proofs.scope.Scope.old_value.Goals as goal

pub returns-in-None : goal.returns-in-None
returns-in-None c = c.old_instance.ensures ∙ ap (old_valued c.args.self.now c.args.begin c.args.name) c.in-None.ensures
