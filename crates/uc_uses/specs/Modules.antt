-- The modules of a design by their names.
use Rattle.std.specs.Prelude.{◌≡◌, ℕ, nat_eq, List, Option}
use Rattle.std.specs.Borrow.{Bor}
use Rattle.std.specs.List.{find}
use Rattle.std.specs.Option.{option_map}
use Rattle.indexmap.specs.IndexMap.{get}
use Rattle.uc_syntax.specs.declared.declaration.Module.{Module}
use Rattle.uc_names.specs.declared.firsts.Firsts.{Firsts}
use Rattle.uc_uses.specs.declared.modules.ModuleTable.{ModuleTable}

-- a table has for each name the first module of the name
abbrev pub named_in : Firsts (Bor Module) → ℕ → Option Module
named_in t x = option_map (λ (m : Bor Module). m.now) (get nat_eq t.things x)

unfoldable pub AreNamed : List Module → Firsts (Bor Module) → Type 0
AreNamed ms t = (x : ℕ) → named_in t x ≡ find (λ m. nat_eq m.name x) ms

abbrev pub KnowsModules : List Module → ModuleTable → Type 0
KnowsModules ms t = AreNamed ms t.modules
