use Rattle.uc_print_laws.proofs.DeclarationLaw.{modules_spelled}
use Rattle.uc_print_laws.proofs.printed_law.modules_are_spelled.Goals as goal

pub returns : goal.returns
returns c = modules_spelled
