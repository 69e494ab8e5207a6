use Rattle.uc_words.proofs.Places.{tokens_within}
use Rattle.uc_words.proofs.law.tokens_are_within.Goals as goal

pub returns : goal.returns
returns c = tokens_within
