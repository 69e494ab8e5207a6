-- What a table of outer names says.
use Rattle.std.specs.Prelude.{◌≡◌, ℕ, nat_eq, [], ◌∷◌, Option, Some, None}
use Rattle.std.specs.Option.{option_map}
use Rattle.indexmap.specs.IndexMap.{get}
use Rattle.uc_meaning.specs.Lookup.{InstanceParts}
use Rattle.uc_order_rules.specs.Writes.{Part, outer_name}
use Rattle.uc_module_writes.specs.declared.outer.OuterNames.{OuterNames}

abbrev pub flat : Option (Option ℕ) → Option ℕ
flat None = None
flat (Some o) = o

abbrev pub outer_by : OuterNames → ℕ → Option ℕ
outer_by t x = flat (get nat_eq t.names.things x)

abbrev pub outer_part_by : OuterNames → Part → Option Part
outer_part_by t [] = None
outer_part_by t (x ∷ fields) = option_map (λ y. y ∷ fields) (outer_by t x)

-- the table has the names that are bound in an instance
abbrev pub IsOuter : OuterNames → InstanceParts → Type 0
IsOuter t i = (x : ℕ) → outer_by t x ≡ outer_name i x
