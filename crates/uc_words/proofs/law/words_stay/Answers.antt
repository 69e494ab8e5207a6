use Rattle.uc_words.proofs.TokenByToken.{words_stay, text_stays}
use Rattle.uc_words.proofs.law.words_stay.Goals as goal

pub returns-clause-tokens : goal.returns-clause-tokens
returns-clause-tokens c = words_stay

pub returns-clause-text : goal.returns-clause-text
returns-clause-text c = text_stays
