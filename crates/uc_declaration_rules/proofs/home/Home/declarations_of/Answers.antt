use Rattle.std.proofs.Common.{ap, ◌∙◌}
use Rattle.uc_meaning.specs.Lookup.{System}
use Rattle.uc_names.specs.Senses.{module_in}
use Rattle.uc_rules.specs.Expressions.{Context}
use Rattle.uc_declaration_rules.proofs.home.Home.declarations_of.Goals as goal

pub returns : goal.returns
returns c =
    c.declarations_of.ensures
    ∙ ap (λ (s : System). (module_in s.modules c.args.number).decls) (c.design.ensures ∙ c.homes.ensures)
    ∙ ap (λ (q : Context). (module_in q.system.modules c.args.number).decls) c.self.view_is
