use Rattle.uc_print_laws.proofs.Lexed.{text_lexed}
use Rattle.uc_print_laws.proofs.law.text_is_lexed.Goals as goal

pub returns : goal.returns
returns c = text_lexed
