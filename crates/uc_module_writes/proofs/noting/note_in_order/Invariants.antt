use Rattle.uc_syntax.specs.declared.declaration.Module.{Module}
use Rattle.std.proofs.Common.{◌≡◌, ℕ, List, map}
use Rattle.uc_declared_types.specs.AliasLaw.{IsAmong}
use Rattle.uc_graph.specs.Order.{IsNeededFirst}
use Rattle.uc_module_writes.specs.Places.{place_by, place_named, places_in}
use Rattle.uc_module_writes.specs.Premise.{NoInstanceCycles}
use Rattle.uc_module_writes.specs.Stepped.{MeetsAmong}
use Rattle.uc_module_writes.proofs.Ordered.{InOrder}
use Rattle.uc_module_writes.proofs.noting.note_in_order.Given as goal

abbrev pub invariant-loop-place : goal.invariant-loop-place
invariant-loop-place l =
    (ends : NoInstanceCycles l.design) (placed : (x : ℕ) → place_by l.places x ≡ place_named l.design.modules x) (bind : (m : Module) → IsAmong m l.design.modules → MeetsAmong l.names m) (graph : List (List ℕ))
    (first : IsNeededFirst graph l.order) (is : graph ≡ map (λ m. places_in l.places m.decls) l.design.modules) →
    InOrder l.design l.names l.places ends placed bind graph l.order first is l.fn.first l.place-index l.summaries l.first
