use Rattle.std.proofs.Common.{◌≡◌, subst}
use Rattle.std.specs.Option.{option_copied}
use Rattle.uc_meaning.specs.Lookup.{System}
use Rattle.uc_names.specs.Senses.{module_in}
use Rattle.uc_rules.specs.Expressions.{Context}
use Rattle.uc_rules.specs.Names.{procedure_named}
use Rattle.uc_read_names.proofs.scope.Scope.procedure.Goals as goal

pub returns : goal.returns
returns c =
    subst (λ (q : Context). option_copied c.procedure.result ≡ procedure_named q.system q.home c.args.name) c.self.view_is
    (subst (λ (s : System). option_copied c.procedure.result ≡ procedure_named s (module_in s.modules c.self.inside.home) c.args.name) c.homes.ensures c.procedure.ensures)
