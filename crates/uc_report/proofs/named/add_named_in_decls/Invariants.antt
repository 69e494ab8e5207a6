use Rattle.std.proofs.Common.{◌≡◌, ◌++◌, take}
use Rattle.std.specs.List.{flat_map}
use Rattle.uc_report.specs.Named.{named_in_decl}
use Rattle.uc_report.proofs.named.add_named_in_decls.Given as goal

abbrev pub invariant-loop-decl : goal.invariant-loop-decl
invariant-loop-decl l = l.named.items ≡ l.initial.named.items ++ flat_map named_in_decl (take l.decl-index l.decls)
