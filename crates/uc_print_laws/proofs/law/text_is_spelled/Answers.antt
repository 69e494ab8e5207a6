use Rattle.uc_print_laws.proofs.Again.{text_spelled}
use Rattle.uc_print_laws.proofs.law.text_is_spelled.Goals as goal

pub returns : goal.returns
returns c = text_spelled c.modules_are_spelled.ensures
