-- What a written type stands for, level by level, and what is found in other modules.
use Rattle.std.specs.Prelude.{ℕ, zero, suc, ◌+◌, nat_eq, List, [], ◌∷◌, map, Option, Some, None}
use Rattle.std.specs.Option.{option_map}
use Rattle.std.specs.List.{position_from}
use Rattle.uc_syntax.specs.declared.type_expression.TypeExpr.{TypeExpr}
use Rattle.uc_syntax.specs.declared.type_expression.Parameter.{Parameter}
use Rattle.uc_syntax.specs.declared.type_expression.TypeExpr.TheOpen.{TypeExpr-F}
use Rattle.uc_syntax.specs.declared.type_expression.TypeExpr.TheOpen.TypeExpr-F.{Record, Array, Named, OfModule}
use Rattle.uc_syntax.specs.declared.type_expression.TypeExpr.TheFolds.{fold-TypeExpr}
use Rattle.uc_syntax.specs.declared.declaration.Decl.{Decl}
use Rattle.uc_syntax.specs.declared.declaration.Decl.TheVariants.{TypeImport}
use Rattle.uc_syntax.specs.declared.declaration.Module.{Module}
use Rattle.uc_syntax.specs.WrittenTypes.{Written, enums_of_module}
use Rattle.uc_values.specs.declared.ty.Ty.{Ty}
use Rattle.uc_values.specs.declared.ty.Field.{Field}
use Rattle.uc_meaning.specs.Lookup.{System, first_some, module_named}
use Rattle.uc_meaning.specs.Types.{TypeEntry as EntryMeant, Alias as AliasMeant, Opaque as OpaqueMeant, type_entry, home_of_type, type_by, type_through, imported_by, enum_number, label_in}
use Rattle.uc_type_reader.specs.declared.homes.TypeEntry.{TypeEntry}
use Rattle.uc_type_reader.specs.declared.homes.TypeEntry.TheVariants.{Alias, Opaque}
use Rattle.uc_type_reader.specs.declared.labels.Label.{Label}
use Rattle.uc_type_reader.specs.declared.mentioned.WrittenEnum.{WrittenEnum}

abbrev pub entry_meant : TypeEntry → EntryMeant
entry_meant (Alias type) = AliasMeant type.now
entry_meant Opaque = OpaqueMeant

-- a module, where it declares a type of this name
abbrev pub if_declares : ℕ → Option Module → Option Module
if_declares x None = None
if_declares x (Some n) = option_map (λ entry. n) (type_entry n x)

-- the module that a declaration imports, where that one declares a type of this name
abbrev pub imported_home : System → ℕ → Decl → Option Module
imported_home system x (TypeImport place m) = if_declares x (module_named system m.name)
imported_home system x other = None

-- the type that a written type stands for, where aliases are read through at most n further ones
abbrev pub type_above : ℕ → System → Module → TypeExpr → Ty
type_above n system m type = type_by system (type_through n system) m type

abbrev pub field_above : ℕ → System → Module → Parameter TypeExpr → Field Ty
field_above n system m p = record { name = p.identifier.name; ty = type_above n system m p.ty }

-- How many forms are read at most: what falls from call to call.
unfoldable pub total : List ℕ → ℕ
total [] = 0
total (n ∷ ns) = n + total ns

abbrev pub cost_of_entry : (Module → TypeExpr → ℕ) → Module → Option EntryMeant → ℕ
cost_of_entry alias m (Some (AliasMeant type)) = alias m type
cost_of_entry alias m (Some OpaqueMeant) = 0
cost_of_entry alias m None = 0

abbrev pub cost_in_home : (Module → TypeExpr → ℕ) → Option Module → ℕ → ℕ
cost_in_home alias None x = 0
cost_in_home alias (Some m) x = cost_of_entry alias m (type_entry m x)

abbrev pub cost_form : System → (Module → TypeExpr → ℕ) → TypeExpr-F (Module → ℕ) → Module → ℕ
cost_form system alias (Record place ps) m = 1 + total (map (λ p. p.ty m) ps)
cost_form system alias (Array place index element) m = 1 + (index m + element m)
cost_form system alias (Named place x) m = 1 + cost_in_home alias (home_of_type system m x) x
cost_form system alias (OfModule place n i) m = 1 + cost_in_home alias (module_named system n) i.name
cost_form system alias other m = 1

unfoldable pub cost_by : System → (Module → TypeExpr → ℕ) → Module → TypeExpr → ℕ
cost_by system alias m type = fold-TypeExpr (Module → ℕ) (cost_form system alias) type m

unfoldable pub cost_through : ℕ → System → Module → TypeExpr → ℕ
cost_through zero system m type = 0
cost_through (suc n) system m type = cost_by system (cost_through n system) m type

abbrev pub cost_above : ℕ → System → Module → TypeExpr → ℕ
cost_above n system m type = cost_by system (cost_through n system) m type

abbrev pub costs_above : ℕ → System → Module → List (Parameter TypeExpr) → ℕ
costs_above n system m ps = total (map (λ p. cost_above n system m p.ty) ps)

-- a label by its enum and its place there
abbrev pub label_meant : Label → ℕ × ℕ
label_meant l = (l.enum_number, l.place)

-- the label of a name in an enum
abbrev pub label_at : System → ℕ → WrittenEnum → Option (ℕ × ℕ)
label_at system x w = option_map (λ k. (enum_number system w.place, k)) (position_from (nat_eq x) 0 w.labels)

abbrev pub enums_of_option : Option Module → List Written
enums_of_option None = []
enums_of_option (Some n) = enums_of_module n

-- the label of a name in the module of another name
abbrev pub label_in_module : System → ℕ → Option Module → Option (ℕ × ℕ)
label_in_module system x o = first_some (label_in system x) (enums_of_option o)

abbrev pub label_in_named : System → ℕ → ℕ → Option (ℕ × ℕ)
label_in_named system x b = label_in_module system x (module_named system b)

-- the label of a name in the module that a declaration imports
abbrev pub label_imported : System → ℕ → Decl → Option (ℕ × ℕ)
label_imported system x (TypeImport place m) = label_in_named system x m.name
label_imported system x other = None
