use Rattle.std.proofs.Common.{◌≤◌, length}
use Rattle.uc_report.proofs.Entered.{ArePlacesFrom}
use Rattle.uc_report.proofs.places.places_in_main.Given as goal

abbrev pub invariant-loop-place : goal.invariant-loop-place
invariant-loop-place l = ArePlacesFrom l.cells l.place l.places.items × (l.place ≤ length l.cells)

abbrev pub decreases-loop-place : goal.decreases-loop-place
decreases-loop-place l = l.place
