-- The numbers of enums by place, and the modules of a design by name.
use Rattle.std.specs.Prelude.{◌≡◌, ℕ, nat_eq, List, Option, Some, unwrap_or}
use Rattle.std.specs.List.{position_from}
use Rattle.indexmap.specs.IndexMap.{get}
use Rattle.uc_lexer.specs.declared.place.Place.{Place}
use Rattle.uc_syntax.specs.declared.declaration.Module.{Module}
use Rattle.uc_meaning.specs.Lookup.{System, same_place}
use Rattle.uc_meaning.specs.Types.{enum_number}
use Rattle.uc_names.specs.declared.firsts.Firsts.{Firsts}
use Rattle.uc_names.specs.Senses.{module_in}
use Rattle.uc_names.specs.Tables.{AreFirst}
use Rattle.uc_type_names.specs.declared.enums.WrittenEnum.{WrittenEnum}
use Rattle.uc_names.specs.declared.place_key.PlaceKey.{PlaceKey}
use Rattle.uc_names.specs.declared.enums.EnumNumbers.{EnumNumbers}
use Rattle.uc_names.specs.contracts.place_key.PlaceKeyPartialEq.TheImpl.{eq-value}

abbrev pub key_of : Place → PlaceKey
key_of p = record { file = p.file; line = p.line; col = p.col }

-- the number that a table has at a place
abbrev pub number_at : EnumNumbers → Place → Option ℕ
number_at t p = get eq-value.it t.numbers (key_of p)

-- a table has for each place the first enum of a list that is written there, by its place in the list
unfoldable pub AreNumbered : EnumNumbers → List WrittenEnum → Type 0
AreNumbered t es = (p : Place) → number_at t p ≡ position_from (λ e. same_place p e.place) 0 es

-- a table has the first module of each name, by its place among all modules
abbrev pub AreModules : List Module → Firsts ℕ → List Module → Type 0
AreModules ms t first = AreFirst (λ x m. nat_eq m.name x) (module_in ms) (λ m. Some m) (get nat_eq t.things) first

-- The tables are those of a design.
pub record KnowsDesign (system : System) (modules : Firsts ℕ) (enums : EnumNumbers) : Type 0 where
  pub modules_known : AreModules system.modules modules system.modules
  pub enums_known : (p : Place) → unwrap_or (number_at enums p) 0 ≡ enum_number system p
