use Rattle.std.proofs.Common.{nat_eq}
use Rattle.indexmap.specs.IndexMap.{get}
use Rattle.uc_module_writes.proofs.Placed.{PlacedTo}
use Rattle.uc_module_writes.proofs.places.ModulePlaces.of.Given as goal

abbrev pub invariant-loop-place : goal.invariant-loop-place
invariant-loop-place l = PlacedTo l.modules l.place (get nat_eq l.places.things)
