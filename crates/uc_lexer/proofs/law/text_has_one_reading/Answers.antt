use Rattle.uc_lexer.proofs.Unique.{one_reading}
use Rattle.uc_lexer.proofs.law.text_has_one_reading.Goals as goal

pub returns : goal.returns
returns c = one_reading
