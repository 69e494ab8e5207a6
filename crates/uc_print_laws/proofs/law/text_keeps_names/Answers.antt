use Rattle.uc_print_laws.proofs.Numbered.{text_keeps}
use Rattle.uc_print_laws.proofs.law.text_keeps_names.Goals as goal

pub returns : goal.returns
returns c = text_keeps
