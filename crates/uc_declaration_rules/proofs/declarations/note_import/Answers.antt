use Rattle.std.proofs.Common.{ap, ◌∙◌}
use Rattle.uc_meaning.specs.Lookup.{module_named}
use Rattle.uc_names.specs.Senses.{module_in}
use Rattle.uc_rules.specs.Expressions.{Context}
use Rattle.uc_declaration_rules.proofs.Forms.{import_found}
use Rattle.uc_declaration_rules.proofs.declarations.note_import.Goals as goal

pub returns : goal.returns
returns c =
    import_found c.args.home.now.system c.args.identifier (module_in c.scope-scope.result.system.modules) c.module_named.result c.is_some-is_there.result c.args.first.now c.note_where.new.first
    (c.module_named.ensures ∙ ap (λ (q : Context). module_named q.system c.args.identifier.name) c.scope-scope.ensures) c.is_some-is_there.ensures c.note_where.ensures
