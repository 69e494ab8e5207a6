use Rattle.uc_print_laws.proofs.TypeLaw.{types_spelled}
use Rattle.uc_print_laws.proofs.printed_law.types_are_spelled.Goals as goal

pub returns : goal.returns
returns c = types_spelled
