use Rattle.uc_words.proofs.Laws.{joined_modules}
use Rattle.uc_words.proofs.mentions.joined_modules.Goals as goal

pub returns : goal.returns
returns c = joined_modules
