use Rattle.uc_blast.proofs.Singles.{no-part}
use Rattle.uc_blast.proofs.words.word.Goals as goal

pub returns-in-None : goal.returns-in-None
returns-in-None c = no-part c.args.words.now c.args.parts.now c.args.place c.in-None.ensures
