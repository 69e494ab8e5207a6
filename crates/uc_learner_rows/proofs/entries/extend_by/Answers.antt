use Rattle.std.proofs.Common.{refl, ◌∙◌}
use Rattle.uc_learner.proofs.Starting.{recorded_first, taken_first}
use Rattle.uc_learner_rows.proofs.Taking.{gate_meets, nothing_in, atom_new}
use Rattle.uc_learner_rows.proofs.entries.extend_by.Goals as goal

pub enter-requires-clause-recorded : goal.enter-requires-clause-recorded
enter-requires-clause-recorded g c =
    recorded_first _ (g.M.Meter.opened c.open.new.self) c.args.p (g.M.Meter.here c.open.new.self) c.in_ok-log.log c.open.ensures.opened c.open.ensures.here c.in_ok-log.ensures

pub enter-requires-clause-meets : goal.enter-requires-clause-meets
enter-requires-clause-meets g c =
    gate_meets c.args.terms.now (g.M.Meter.opened c.open.new.self) c.args.p c.in_ok-log.log c.in_ok-gate.gate c.open.ensures.opened c.in_ok-log.ensures c.in_ok-gate.ensures

pub enter-requires-clause-new : goal.enter-requires-clause-new
enter-requires-clause-new g c = nothing_in c.in_ok-log.log _ c.in_ok-log.ensures

pub enter-requires-2-clause-new : goal.enter-requires-2-clause-new
enter-requires-2-clause-new g c = atom_new c.in_ok-log.log c.enter.new.log c.in_ok-gate.gate c.args.atom c.in_ok-log.ensures c.in_ok-enter.ensures.ok

pub take_over-requires-clause-none : goal.take_over-requires-clause-none
take_over-requires-clause-none g c =
    taken_first (g.M.Meter.opened c.enter-2.new.meter) c.args.p _ c.args.learner.now (c.enter-2.ensures.opened ∙ c.enter.ensures.opened ∙ c.open.ensures.opened) refl c.requires.taken
