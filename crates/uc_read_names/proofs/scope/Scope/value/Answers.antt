use Rattle.std.proofs.Common.{◌≡◌, Some, None, ap, sym, subst, ◌∙◌}
use Rattle.std.specs.Prelude.{IfOk}
use Rattle.std.specs.Option.{option_map}
use Rattle.uc_lookup.specs.Parts.{instance_parts}
use Rattle.uc_meaning.specs.Lookup.{System, module_named}
use Rattle.uc_names.specs.Senses.{called_meant, module_in, value_meant}
use Rattle.uc_rules.specs.Expressions.{Context, enum_of}
use Rattle.uc_rules.specs.Names.{called_named, instance_named, value_named}
use Rattle.uc_rules.specs.Reads.{define_reads}
use Rattle.uc_rules.specs.Types.{type_of}
use Rattle.uc_read_names.proofs.scope.Scope.value.Goals as goal

pub returns : goal.returns
returns c =
    subst (λ (q : Context). option_map value_meant c.value.result ≡ value_named q.system q.home c.args.name) c.self.view_is
    (subst (λ (s : System). option_map value_meant c.value.result ≡ value_named s (module_in s.modules c.self.inside.home) c.args.name) c.homes.ensures c.value.ensures)
