use Rattle.std.proofs.Common.{ap, ◌∙◌}
use Rattle.uc_rules.specs.Expressions.{Context}
use Rattle.uc_rules.specs.Statements.{may_modify}
use Rattle.uc_read_names.proofs.scope.Scope.may_modify.Goals as goal

pub returns : goal.returns
returns c = c.may_be_modified.ensures ∙ ap (λ (q : Context). may_modify q.modifies c.args.name) c.self.view_is
