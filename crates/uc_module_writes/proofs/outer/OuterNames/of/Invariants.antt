use Rattle.std.proofs.Common.{nat_eq}
use Rattle.indexmap.specs.IndexMap.{get}
use Rattle.uc_module_writes.proofs.StepPartsBound.{BoundTo}
use Rattle.uc_module_writes.proofs.outer.OuterNames.of.Given as goal

abbrev pub invariant-loop-binding : goal.invariant-loop-binding
invariant-loop-binding l = BoundTo (get nat_eq l.names.things) l.bindings l.binding-index
