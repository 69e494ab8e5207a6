use Rattle.uc_lexer.proofs.Rising.{rising_tokens}
use Rattle.uc_lexer.proofs.law.tokens_rise.Goals as goal

pub returns : goal.returns
returns c = rising_tokens
