use Rattle.std.specs.Prelude.{nat_eq}
use Rattle.indexmap.specs.IndexMap.{get}
use Rattle.uc_flat_making.proofs.Entered.{PlacedUpTo}
use Rattle.uc_flat_making.proofs.cells.places_of.Given as goal

abbrev pub invariant-loop-place : goal.invariant-loop-place
invariant-loop-place l = PlacedUpTo (λ x c. nat_eq c.name x) l.cells l.place (get nat_eq l.places.things)
