use Rattle.std.proofs.Common.{◌≡◌, drop}
use Rattle.uc_meaning.specs.Steps.{part_reading}
use Rattle.uc_readings.specs.Readings.{reading_of}
use Rattle.uc_checks.proofs.fields.part.Given as goal

abbrev pub invariant-loop-name : goal.invariant-loop-name
invariant-loop-name l = part_reading (reading_of l.here) (drop l.name-index l.fields) ≡ part_reading (reading_of l.fn.whole) l.fields
