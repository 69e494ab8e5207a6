use Rattle.std.proofs.Common.{◌≡◌, subst}
use Rattle.uc_rules.specs.Declarations.{in_module}
use Rattle.uc_rules.specs.Expressions.{Context}
use Rattle.uc_declaration_rules.proofs.home.Home.scope.Goals as goal

pub returns : goal.returns
returns c = subst (λ (q : Context). c.of.result ≡ in_module q.system q.home) c.self.view_is c.of.ensures
