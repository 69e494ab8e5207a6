use Rattle.std.proofs.Common.{◌≡◌, ◌++◌, take}
use Rattle.std.specs.List.{flat_map}
use Rattle.uc_report.proofs.Opaques.{opaque_here}
use Rattle.uc_report.proofs.trace_tables.add_opaque_types.Given as goal

abbrev pub invariant-loop-decl : goal.invariant-loop-decl
invariant-loop-decl l = l.types.items ≡ l.initial.types.items ++ flat_map (opaque_here l.owner) (take l.decl-index l.decls)
