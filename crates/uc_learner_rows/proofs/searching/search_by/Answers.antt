use Rattle.uc_learner.proofs.Starting.{recorded_first, taken_first}
use Rattle.uc_learner_rows.proofs.searching.search_by.Goals as goal

pub searched-requires-clause-recorded : goal.searched-requires-clause-recorded
searched-requires-clause-recorded g c =
    recorded_first c.args.terms.now (g.M.Meter.opened c.open.new.self) c.args.p (g.M.Meter.here c.open.new.self) c.in_ok-log.log c.open.ensures.opened c.open.ensures.here c.in_ok-log.ensures

pub searched-requires-clause-taken : goal.searched-requires-clause-taken
searched-requires-clause-taken g c =
    taken_first (g.M.Meter.opened c.open.new.self) c.args.p c.in_ok-log.log c.args.learner.now c.open.ensures.opened c.in_ok-log.ensures c.requires.taken
