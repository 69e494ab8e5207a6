use Rattle.uc_written_once.specs.Places.{is_known}
use Rattle.uc_written_once.proofs.Overlaps.{NoneBefore}
use Rattle.uc_written_once.proofs.KnownPlaces.{same}
use Rattle.uc_written_once.proofs.table.has_known_front.Given as goal

abbrev pub invariant-loop-end : goal.invariant-loop-end
invariant-loop-end l = NoneBefore (is_known same l.places l.parts) l.path l.end
