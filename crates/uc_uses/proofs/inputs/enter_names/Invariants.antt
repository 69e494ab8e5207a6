use Rattle.std.proofs.Common.{◌≡◌, ℕ, Some, take}
use Rattle.std.specs.Prelude.{nat_eq}
use Rattle.indexmap.specs.IndexMap.{get}
use Rattle.uc_meaning.specs.Lookup.{names_one, or_else}
use Rattle.uc_rules.specs.Names.{only_if}
use Rattle.uc_uses.proofs.inputs.enter_names.Given as goal

abbrev pub invariant-loop-identifier : goal.invariant-loop-identifier
invariant-loop-identifier l = (x : ℕ) → get nat_eq l.inputs.things x ≡ or_else (get nat_eq l.fn.inputs.things x) (only_if (names_one x (take l.identifier-index l.names)) (Some l.flag))
