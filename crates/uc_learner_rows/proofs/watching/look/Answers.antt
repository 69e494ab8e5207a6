use Rattle.std.proofs.Common.{sym, ◌∙◌}
use Rattle.uc_learner_rows.proofs.Listed.{watched_first}
use Rattle.uc_learner_rows.proofs.watching.look.Goals as goal

pub all_variables-variables-requires : goal.all_variables-variables-requires
all_variables-variables-requires g c =
    watched_first (g.M.Meter.opened c.args.meter.now) c.in-Some.p.now c.args.log.now c.args.learner.now c.watches-rings.result.now c.as_slice.result.now
    (sym c.in-Some.ensures) c.requires (c.as_slice.ensures.value ∙ c.in_ok-first-in-Some.ensures) c.watches-rings.ensures
