use Rattle.std.proofs.Common.{arith, length, false, ◌≡◌, ◌<◌}
use Rattle.std.proofs.lemmas.Grind.{common_steps}
use Rattle.uc_learner.proofs.Starting.{count_more, count_all}
use Rattle.uc_learner_rows.proofs.instances.problem_of.Goals as goal

pub loop-number-preserved : goal.loop-number-preserved
loop-number-preserved c =
    let h : c.loop-number.number < length c.in_ok-flags.flags.items = grind (arith, common_steps) in
    record { atoms = grind (arith, common_steps, count_more c.in_ok-flags.flags.items c.loop-number.number false h) }

pub of-requires-clause-atoms : goal.of-requires-clause-atoms
of-requires-clause-atoms c = grind (arith, common_steps, count_all c.args.circuit c.in_ok-flags.flags.items (length c.in_ok-flags.flags.items) c.in_ok-flags.ensures)
