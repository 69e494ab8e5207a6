use Rattle.std.proofs.Common.{refl, ◌∙◌}
use Rattle.uc_learner.proofs.Starting.{recorded_first, taken_first}
use Rattle.uc_learner_rows.proofs.watching.observe.Goals as goal

pub look-requires : goal.look-requires
look-requires g c =
    taken_first (g.M.Meter.opened c.open.new.self) c.args.p c.in_ok-log.log c.args.searching.now c.open.ensures.opened c.in_ok-log.ensures c.requires.searching

pub next-requires-clause-recorded : goal.next-requires-clause-recorded
next-requires-clause-recorded g c =
    recorded_first c.args.terms.now (g.M.Meter.opened c.open.new.self) c.args.p (g.M.Meter.here c.open.new.self) c.in_ok-log.log c.open.ensures.opened c.open.ensures.here c.in_ok-log.ensures

pub next-requires-clause-taken : goal.next-requires-clause-taken
next-requires-clause-taken g c =
    taken_first (g.M.Meter.opened c.open.new.self) c.args.p c.in_ok-log.log c.args.searching.now c.open.ensures.opened c.in_ok-log.ensures c.requires.searching

pub take_over-requires-clause-none : goal.take_over-requires-clause-none
take_over-requires-clause-none g c =
    taken_first (g.M.Meter.opened c.next.new.meter) c.args.p _ c.args.taking.now (c.next.ensures.opened ∙ c.open.ensures.opened) refl c.requires.taking
