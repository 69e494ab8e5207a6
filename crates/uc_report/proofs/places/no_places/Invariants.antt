use Rattle.uc_report.specs.TraceTables.{AreNone}
use Rattle.uc_report.proofs.places.no_places.Given as goal

abbrev pub invariant-loop-turn : goal.invariant-loop-turn
invariant-loop-turn l = AreNone l.places.items
