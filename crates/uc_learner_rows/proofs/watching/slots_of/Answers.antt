use Rattle.uc_learner_rows.proofs.Listed.{next_listed}
use Rattle.uc_learner_rows.proofs.watching.slots_of.Goals as goal

pub loop-turn-preserved : goal.loop-turn-preserved
loop-turn-preserved c =
    next_listed c.args.rings.now c.args.literal c.in-Some.slot c.loop-turn.place c.after-place.result c.in-Some.is c.loop-turn.invariant c.after-place.ensures.after
