use Rattle.std.proofs.Common.{ap, ◌∙◌}
use Rattle.uc_rules.specs.Statements.{is_written_value}
use Rattle.uc_statement_rules.proofs.written.is_written.Goals as goal

pub returns-in-Some : goal.returns-in-Some
returns-in-Some c = c.is_written_value.ensures ∙ ap is_written_value c.in-Some.ensures

pub returns-in-None : goal.returns-in-None
returns-in-None c = ap is_written_value c.in-None.ensures
