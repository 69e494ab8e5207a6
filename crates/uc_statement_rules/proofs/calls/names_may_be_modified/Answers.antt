use Rattle.std.proofs.Common.{◌∙◌}
use Rattle.uc_statement_rules.proofs.Modifying.{names_kept}
use Rattle.uc_statement_rules.proofs.calls.names_may_be_modified.Goals as goal

pub returns : goal.returns
returns c = c.names_may.ensures ∙ names_kept c.args.scope.now c.args.names.now
