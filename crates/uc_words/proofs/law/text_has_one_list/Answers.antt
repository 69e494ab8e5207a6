use Rattle.uc_words.proofs.TokenByToken.{text_has_one_list}
use Rattle.uc_words.proofs.law.text_has_one_list.Goals as goal

pub returns : goal.returns
returns c = text_has_one_list
