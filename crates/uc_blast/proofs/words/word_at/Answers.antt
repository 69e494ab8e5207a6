use Rattle.uc_blast.proofs.Singles.{no-word}
use Rattle.uc_blast.proofs.words.word_at.Goals as goal

pub returns-in-None : goal.returns-in-None
returns-in-None c = no-word c.args.words.now c.args.place c.in-None.ensures
