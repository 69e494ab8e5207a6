use Rattle.std.proofs.Common.{get_or}
use Rattle.uc_readings.specs.Readings.{reading_of}
use Rattle.uc_checks.proofs.Growing.{same_at}
use Rattle.uc_checks.proofs.Parts.{part_more, part_end}
use Rattle.uc_checks.proofs.fields.part.Goals as goal

pub loop-name-preserved : goal.loop-name-preserved
loop-name-preserved c =
    part_more (reading_of c.args.whole) c.args.fields.now c.loop-name.name-index (reading_of c.loop-name.here) c.loop-name.invariant (get_or c.args.fields.now c.loop-name.name-index 0) (reading_of c.in_ok-here.here) c.loop-name-test.true
    (same_at c.args.fields.now c.loop-name.name-index 0 (get_or c.args.fields.now c.loop-name.name-index 0) c.loop-name-test.true) c.in_ok-here.ensures

pub returns : goal.returns
returns c = part_end (reading_of c.args.whole) c.args.fields.now c.loop-name.name-index (reading_of c.loop-name.here) c.loop-name.invariant c.loop-name-test.false
