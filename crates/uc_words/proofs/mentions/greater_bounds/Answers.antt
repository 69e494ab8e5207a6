use Rattle.uc_words.proofs.Laws.{greater_bounds}
use Rattle.uc_words.proofs.mentions.greater_bounds.Goals as goal

pub returns : goal.returns
returns c = greater_bounds
