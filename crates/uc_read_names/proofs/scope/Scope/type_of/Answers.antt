use Rattle.std.proofs.Common.{◌≡◌, Some, None, ap, sym, subst, ◌∙◌}
use Rattle.std.specs.Prelude.{IfOk}
use Rattle.std.specs.Option.{option_map}
use Rattle.uc_lookup.specs.Parts.{instance_parts}
use Rattle.uc_meaning.specs.Lookup.{System, module_named}
use Rattle.uc_names.specs.Senses.{called_meant, module_in, value_meant}
use Rattle.uc_rules.specs.Expressions.{Context, enum_of}
use Rattle.uc_rules.specs.Names.{called_named, instance_named, value_named}
use Rattle.uc_rules.specs.Reads.{define_reads}
use Rattle.uc_rules.specs.Types.{type_of}
use Rattle.uc_read_names.proofs.scope.Scope.type_of.Goals as goal

pub returns : goal.returns
returns c = c.in_ok-found.ensures ∙ ap (λ (q : Context). type_of q.system q.home c.args.ty.now) c.self.view_is
