use Rattle.std.proofs.Common.{◌<◌, arith, length, take}
use Rattle.std.proofs.lemmas.Grind.{common_steps}
use Rattle.std.proofs.lemmas.List.{take_all}
use Rattle.uc_learner_rows.proofs.Taking.{entries_before, over_at, taken_on, taken_all}
use Rattle.uc_learner_rows.proofs.entries.take_over.Goals as goal

pub add_entry-requires-clause-number : goal.add_entry-requires-clause-number
add_entry-requires-clause-number g c =
    let inside : c.loop-number.number < length c.args.log.now = grind (arith, common_steps) in
    entries_before (g.M.Meter.opened c.args.meter.now) c.args.log.now c.loop-number.number c.loop-number.learner inside c.loop-number.invariant

pub add_entry-requires-clause-over : goal.add_entry-requires-clause-over
add_entry-requires-clause-over g c =
    let inside : c.loop-number.number < length c.args.log.now = grind (arith, common_steps) in
    over_at c.args.terms.now (g.M.Meter.opened c.args.meter.now) c.args.log.now c.loop-number.number c.loop-number.learner c.requires.recorded.valid c.loop-number.invariant inside

pub loop-number-preserved : goal.loop-number-preserved
loop-number-preserved g c =
    taken_on (g.M.Meter.opened c.args.meter.now) c.args.log.now c.loop-number.number c.loop-number.learner c.add_entry.new.self c.in_ok-add_entry.ensures c.loop-number.invariant
