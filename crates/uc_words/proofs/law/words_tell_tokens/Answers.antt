use Rattle.uc_words.proofs.Told.{words_tell_tokens}
use Rattle.uc_words.proofs.law.words_tell_tokens.Goals as goal

pub returns : goal.returns
returns c = words_tell_tokens
