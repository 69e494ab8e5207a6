-- The type that a written type stands for, after aliases, and the numbers of enums and of types without a definition.
use Rattle.std.specs.Prelude.{ℕ, zero, suc, ◌+◌, ◌&&◌, nat_eq, List, [], ◌∷◌, ◌++◌, map, length, unwrap_or, Option, Some, None}
use Rattle.std.specs.Option.{option_map}
use Rattle.std.specs.List.{flat_map, filter_map, position_from}
use Rattle.uc_lexer.specs.declared.place.Place.{Place}
use Rattle.uc_syntax.specs.declared.type_expression.TypeExpr.{TypeExpr}
use Rattle.uc_syntax.specs.declared.type_expression.TypeExpr.TheOpen.{TypeExpr-F}
use Rattle.uc_syntax.specs.declared.type_expression.TypeExpr.TheOpen.TypeExpr-F.{Boolean, Integer, Bits, Enumeration, Record, Array, Named, OfModule}
use Rattle.uc_syntax.specs.declared.type_expression.TypeExpr.TheFolds.{fold-TypeExpr}
use Rattle.uc_syntax.specs.declared.declaration.Decl.{Decl}
use Rattle.uc_syntax.specs.declared.declaration.Decl.TheVariants.{OpaqueType, TypeAlias, TypeImport}
use Rattle.uc_syntax.specs.declared.declaration.Module.{Module}
use Rattle.uc_values.specs.declared.ty.Ty.{Ty}
use Rattle.uc_values.specs.declared.ty.Ty.TheVariants.{Bool as boolean_type, Int as integer_type, Bv as bits_type, Enum as enum_type, Un as open_type}
use Rattle.uc_values.specs.declared.ty.Ty.TheViews.{Rec as record_type, Arr as array_type}
use Rattle.uc_syntax.specs.WrittenTypes.{Written, types_of_module, enums_of_module, enums_of}
use Rattle.uc_meaning.specs.Lookup.{System, first_some, some_if, same_place, is_named, module_named}

unfoldable pub enum_number : System → Place → ℕ
enum_number system p = unwrap_or (position_from (λ e. same_place p e.place) 0 (enums_of system.modules)) 0

-- the modules that a written type names
abbrev pub modules_form : TypeExpr-F (List ℕ) → List ℕ
modules_form (OfModule place m i) = m ∷ []
modules_form (Record place ps) = flat_map (λ p. p.ty) ps
modules_form (Array place index element) = index ++ element
modules_form other = []

abbrev pub imported_by : Decl → List ℕ
imported_by (TypeImport place m) = m.name ∷ []
imported_by other = []

-- the modules whose labels a module brings in
unfoldable pub modules_brought : Module → List ℕ
modules_brought m =
    flat_map imported_by m.decls ++ flat_map (fold-TypeExpr (List ℕ) modules_form) (types_of_module m)

-- the number of the label in its enum, where one of these enums has it, after the number of the enum
abbrev pub label_in : System → ℕ → Written → Option (ℕ × ℕ)
label_in system x e = option_map (λ k. (enum_number system e.place, k)) (position_from (nat_eq x) 0 e.labels)

-- the label of a name in a module: of an enum of its own, else of a module that it brings in
unfoldable pub label_of : System → Module → ℕ → Option (ℕ × ℕ)
label_of system m x =
    first_some (label_in system x) (enums_of_module m ++ flat_map (λ b. enums_of_named (module_named system b)) (modules_brought m))
  where
    enums_of_named : Option Module → List Written
    enums_of_named None = []
    enums_of_named (Some n) = enums_of_module n

-- every type without a definition, by module and name: its number is its place in this list
abbrev pub opaque_in : ℕ → Decl → Option (ℕ × ℕ)
opaque_in m (OpaqueType place i) = Some (m, i.name)
opaque_in m other = None

unfoldable pub opaque_types_of : System → List (ℕ × ℕ)
opaque_types_of system = flat_map (λ m. filter_map (opaque_in m.name) m.decls) system.modules

unfoldable pub opaque_number : System → ℕ → ℕ → ℕ
opaque_number system m x = unwrap_or (position_from (λ p. nat_eq p.0 m && nat_eq p.1 x) 0 (opaque_types_of system)) 0

-- What a type's name says in a module: an alias, a type without a definition, or nothing.
pub data TypeEntry : Type 0 where
  Alias : TypeExpr → TypeEntry
  Opaque : TypeEntry

abbrev pub type_in : ℕ → Decl → Option TypeEntry
type_in x (TypeAlias place i type) = some_if (is_named x i) (Alias type)
type_in x (OpaqueType place i) = some_if (is_named x i) Opaque
type_in x other = None

-- the type of a name in the module that declares it
abbrev pub type_entry : Module → ℕ → Option TypeEntry
type_entry m x = first_some (type_in x) m.decls

-- the module in which a type's name is declared: the module itself, else one that it imports
unfoldable pub home_of_type : System → Module → ℕ → Option Module
home_of_type system m x = first_some declares (Some m ∷ map (module_named system) (flat_map imported_by m.decls))
  where
    declares : Option Module → Option Module
    declares None = None
    declares (Some n) = option_map (λ entry. n) (type_entry n x)

-- the type of a name in the module that declares it, where an alias is read by `alias`
abbrev pub type_by_entry : System → (Module → TypeExpr → Ty) → Module → ℕ → Option TypeEntry → Ty
type_by_entry system alias m x (Some (Alias type)) = alias m type
type_by_entry system alias m x (Some Opaque) = open_type (opaque_number system m.name x)
type_by_entry system alias m x None = boolean_type

abbrev pub type_in_home : System → (Module → TypeExpr → Ty) → Option Module → ℕ → Ty
type_in_home system alias (Some m) x = type_by_entry system alias m x (type_entry m x)
type_in_home system alias None x = boolean_type

-- the type that a written type stands for in a module, where an alias is read by `alias`
abbrev pub type_form : System → (Module → TypeExpr → Ty) → TypeExpr-F (Module → Ty) → Module → Ty
type_form system alias (Boolean place) m = boolean_type
type_form system alias (Integer place) m = integer_type
type_form system alias (Bits place width) m = bits_type width
type_form system alias (Enumeration place labels) m = enum_type (enum_number system place) (length labels)
type_form system alias (Record place ps) m = record_type (map (λ p. record { name = p.identifier.name; ty = p.ty m }) ps)
type_form system alias (Array place index element) m = array_type (index m) (element m)
type_form system alias (Named place x) m = type_in_home system alias (home_of_type system m x) x
type_form system alias (OfModule place n i) m = type_in_home system alias (module_named system n) i.name

unfoldable pub type_by : System → (Module → TypeExpr → Ty) → Module → TypeExpr → Ty
type_by system alias m type = fold-TypeExpr (Module → Ty) (type_form system alias) type m

-- the same, through at most n aliases
unfoldable pub type_through : ℕ → System → Module → TypeExpr → Ty
type_through zero system m type = boolean_type
type_through (suc n) system m type = type_by system (type_through n system) m type

-- Aliases are on no cycle, so no chain of them is longer than the declarations of the design.
unfoldable pub type_of_written : System → Module → TypeExpr → Ty
type_of_written system = type_through (length (flat_map (λ m. m.decls) system.modules) + 1) system
