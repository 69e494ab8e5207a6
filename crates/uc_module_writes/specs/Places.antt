-- The places of modules.
use Rattle.std.specs.Prelude.{ℕ, nat_eq, List, Option}
use Rattle.std.specs.Option.{option_and_then}
use Rattle.std.specs.List.{flat_map, position_from}
use Rattle.indexmap.specs.IndexMap.{get}
use Rattle.uc_syntax.specs.declared.declaration.Decl.{Decl}
use Rattle.uc_syntax.specs.declared.declaration.Module.{Module}
use Rattle.uc_meaning.specs.Cells.{as_list}
use Rattle.uc_meaning.specs.Lookup.{instance_in}
use Rattle.uc_module_writes.specs.declared.places.ModulePlaces.{ModulePlaces}

-- the place of the first module of a name
abbrev pub place_named : List Module → ℕ → Option ℕ
place_named ms x = position_from (λ m. nat_eq m.name x) 0 ms

-- the place that a table has for a name
abbrev pub place_by : ModulePlaces → ℕ → Option ℕ
place_by t x = get nat_eq t.places.things x

-- the place of the module of which a declaration makes an instance
abbrev pub place_in : ModulePlaces → Decl → Option ℕ
place_in t d = option_and_then (λ i. place_by t i.module_name) (instance_in d)

abbrev pub places_in : ModulePlaces → List Decl → List ℕ
places_in t ds = flat_map (λ d. as_list (place_in t d)) ds
