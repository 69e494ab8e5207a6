use Rattle.uc_print_laws.proofs.ExpressionLaw.{expr_spelled}
use Rattle.uc_print_laws.proofs.printed_law.expressions_are_spelled.Goals as goal

pub returns : goal.returns
returns c = expr_spelled
