-- What is listed of a design once: its enums, its types without a definition, and how many declarations it has.
use Rattle.std.specs.Prelude.{◌≡◌, ℕ, List, [], ◌∷◌, map, length}
use Rattle.std.specs.List.{flat_map}
use Rattle.uc_syntax.specs.declared.declaration.Decl.{Decl}
use Rattle.uc_syntax.specs.declared.declaration.Module.{Module}
use Rattle.uc_syntax.specs.WrittenTypes.{enums_of_module, enums_of}
use Rattle.uc_meaning.specs.Lookup.{System}
use Rattle.uc_meaning.specs.Types.{opaque_in, opaque_types_of}
use Rattle.uc_meaning.specs.Cells.{as_list}
use Rattle.uc_type_reader.specs.declared.mentioned.WrittenEnum.{WrittenEnum}
use Rattle.uc_type_reader.specs.declared.places.Lists.{Lists}
use Rattle.uc_type_reader.specs.Mentioned.{enum_written}

-- the enums that a design writes, in their order
abbrev pub written_enums : List Module → List WrittenEnum
written_enums modules = map enum_written (enums_of modules)

abbrev pub enums_in_module : Module → List WrittenEnum
enums_in_module m = map enum_written (enums_of_module m)

abbrev pub opaque_at : ℕ → Decl → List (ℕ × ℕ)
opaque_at m d = as_list (opaque_in m d)

abbrev pub opaques_in : Module → List (ℕ × ℕ)
opaques_in m = flat_map (opaque_at m.name) m.decls

abbrev pub declaration_count : List Module → ℕ
declaration_count modules = length (flat_map (λ m. m.decls) modules)

-- The lists and the number are those of the modules.
pub record ListsOf (modules : List Module) (lists : Lists) : Type 0 where
  pub enums_written : lists.enums ≡ written_enums modules
  pub opaques_declared : lists.opaques ≡ flat_map opaques_in modules
  pub declarations_there : lists.declarations ≡ declaration_count modules

-- The lists and the number are those of the design.
pub record AreListed (system : System) (enums : List WrittenEnum) (opaques : List (ℕ × ℕ)) (declarations : ℕ) : Type 0 where
  pub enums_listed : enums ≡ written_enums system.modules
  pub opaques_listed : opaques ≡ opaque_types_of system
  pub declarations_counted : declarations ≡ declaration_count system.modules
