use Rattle.std.proofs.Common.{◌≡◌, take}
use Rattle.std.specs.List.{flat_map}
use Rattle.uc_report.specs.Named.{named_in_decl}
use Rattle.uc_report.proofs.named.named_places.Given as goal

abbrev pub invariant-loop-module : goal.invariant-loop-module
invariant-loop-module l = l.named.items ≡ flat_map (λ m. flat_map named_in_decl m.decls) (take l.module-index l.module-items)
