use Rattle.std.proofs.Common.{◌≡◌, take}
use Rattle.std.specs.List.{flat_map, filter_map}
use Rattle.uc_meaning.specs.Types.{opaque_in}
use Rattle.uc_report.proofs.trace_tables.opaque_types_of.Given as goal

abbrev pub invariant-loop-module : goal.invariant-loop-module
invariant-loop-module l = l.types.items ≡ flat_map (λ m. filter_map (opaque_in m.name) m.decls) (take l.module-index l.module-items)
