use Rattle.uc_print_laws.proofs.StatementLaw.{stmt_spelled}
use Rattle.uc_print_laws.proofs.printed_law.statements_are_spelled.Goals as goal

pub returns : goal.returns
returns c = stmt_spelled
