use Rattle.uc_words.proofs.Coded.{names_are_mentioned}
use Rattle.uc_words.proofs.law.names_are_mentioned.Goals as goal

pub returns : goal.returns
returns c = names_are_mentioned
