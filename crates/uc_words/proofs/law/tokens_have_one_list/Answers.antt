use Rattle.uc_words.proofs.TokenByToken.{one_list}
use Rattle.uc_words.proofs.law.tokens_have_one_list.Goals as goal

pub returns : goal.returns
returns c = one_list
