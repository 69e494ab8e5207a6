use Rattle.uc_rings.specs.Lists.{slots_of}
use Rattle.uc_learner_rows.proofs.Listed.{Listed}
use Rattle.uc_learner_rows.proofs.watching.slots_of.Given as goal

abbrev pub invariant-loop-turn : goal.invariant-loop-turn
invariant-loop-turn l = Listed (slots_of l.rings l.fn.literal) l.place
