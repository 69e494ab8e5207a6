-- Written types: their faults, and the types that they stand for after aliases.
use Rattle.std.specs.Prelude.{ℕ, zero, suc, List, [], ◌∷◌, ◌++◌, map, length, if◌then◌else◌, Option, Some, None}
use Rattle.std.specs.List.{flat_map}
use Rattle.uc_lexer.specs.declared.place.Place.{Place}
use Rattle.uc_syntax.specs.declared.place.Identifier.{Identifier}
use Rattle.uc_syntax.specs.declared.type_expression.Parameter.{Parameter}
use Rattle.uc_syntax.specs.declared.type_expression.TypeExpr.{TypeExpr}
use Rattle.uc_syntax.specs.declared.type_expression.TypeExpr.TheOpen.{TypeExpr-F}
use Rattle.uc_syntax.specs.declared.type_expression.TypeExpr.TheOpen.TypeExpr-F.{Boolean, Integer, Bits, Enumeration, Record, Array, Named, OfModule}
use Rattle.uc_syntax.specs.declared.type_expression.TypeExpr.TheFolds.{fold-TypeExpr}
use Rattle.uc_syntax.specs.declared.declaration.Module.{Module}
use Rattle.uc_values.specs.declared.ty.Ty.{Ty}
use Rattle.uc_values.specs.declared.ty.Field.{Field}
use Rattle.uc_values.specs.declared.ty.Ty.TheVariants.{Bool as boolean_type, Int as integer_type, Enum as enum_type, Un as open_type}
use Rattle.uc_values.specs.declared.ty.Ty.TheViews.{Rec as record_type, Arr as array_type}
use Rattle.uc_values.specs.Types.{is_scalar}
use Rattle.uc_meaning.specs.Lookup.{System, module_named}
use Rattle.uc_meaning.specs.Types.{TypeEntry, Alias, Opaque, enum_number, opaque_number}
use Rattle.uc_rules.specs.declared.fault.Fault.{Fault}
use Rattle.uc_rules.specs.declared.rule.Rule.TheVariants.{UnknownName, ArrayShape}
use Rattle.uc_rules.specs.declared.outcome.Outcome.{Outcome}
use Rattle.uc_rules.specs.declared.outcome.Outcome.TheVariants.{Has, Breaks, Unjudged}
use Rattle.uc_rules.specs.Faults.{breaks}
use Rattle.uc_rules.specs.Outcomes.{type_in, faults_in, outcome_of}
use Rattle.uc_rules.specs.Rows.{array_shape, width_outcome}
use Rattle.uc_rules.specs.Names.{type_named, type_of_module, repeated_in_list}

-- What the rules say of a written type: where it begins, its faults, and its type, where nothing in it is broken.
pub record TypeFound : Type 0 where
  pub place : Place
  pub faults : List Fault
  pub type : Option Ty

-- a type whose parts have these faults
abbrev pub finds : Place → List Fault → Outcome → TypeFound
finds place inner outcome = record { place = place; faults = inner ++ faults_in place outcome; type = type_in outcome }

-- How an alias is read in the module that declares it.
abbrev pub Aliases : Type 0
Aliases = Module → TypeExpr → Option Ty

-- what a type's name stands for, by the module that declares it and what it says there
abbrev pub entry_type : System → Aliases → ℕ → Module → TypeEntry → Outcome
entry_type system alias x home (Alias type) = outcome_of (alias home type)
entry_type system alias x home Opaque = Has (open_type (opaque_number system home.name x))

-- there is no fault at a type's name where what it stands for breaks a rule
abbrev pub entry_outcome : System → Aliases → ℕ → Option (Module × TypeEntry) → Outcome
entry_outcome system alias x None = Breaks UnknownName
entry_outcome system alias x (Some entry) = entry_type system alias x entry.0 entry.1

-- `m.t`: a module that isn't there is a fault at its name, and a type that isn't there at the type's name
abbrev pub of_module : System → Aliases → Place → Identifier → Option Module → TypeFound
of_module system alias place i None = finds place [] (Breaks UnknownName)
of_module system alias place i (Some m) = record {
  place = place;
  faults = faults_in i.place (entry_outcome system alias i.name (type_of_module m i.name));
  type = type_in (entry_outcome system alias i.name (type_of_module m i.name));
}

abbrev pub with_field : ℕ → Option Ty → Option (List (Field Ty)) → Option (List (Field Ty))
with_field name (Some t) (Some fields) = Some (record { name = name; ty = t } ∷ fields)
with_field name t fields = None

-- the fields of a record, where the type of each is known
abbrev pub known_fields : List (Parameter TypeFound) → Option (List (Field Ty))
known_fields [] = Some []
known_fields (p ∷ ps) = with_field p.identifier.name p.ty.type (known_fields ps)

abbrev pub record_outcome : Option (List (Field Ty)) → Outcome
record_outcome None = Unjudged
record_outcome (Some fields) = Has (record_type fields)

-- an array's index is a scalar, and its element a scalar or a record of scalars
abbrev pub array_outcome : Option Ty → Option Ty → Outcome
array_outcome (Some index) (Some element) = if array_shape index element then Has (array_type index element) else Breaks ArrayShape
array_outcome index element = Unjudged

abbrev pub type_form : System → Aliases → TypeExpr-F (Module → TypeFound) → Module → TypeFound
type_form system alias (Boolean place) m = finds place [] (Has boolean_type)
type_form system alias (Integer place) m = finds place [] (Has integer_type)
type_form system alias (Bits place width) m = finds place [] (width_outcome width)
type_form system alias (Enumeration place labels) m = finds place [] (Has (enum_type (enum_number system place) (length labels)))
type_form system alias (Record place ps) m =
    finds place (repeated_in_list (map (λ p. p.identifier) ps) ++ flat_map (λ p. (p.ty m).faults) ps) (record_outcome (known_fields (map (λ p. record { identifier = p.identifier; ty = p.ty m }) ps)))
type_form system alias (Array place index element) m =
    finds place ((index m).faults ++ (element m).faults) (array_outcome (index m).type (element m).type)
type_form system alias (Named place x) m = finds place [] (entry_outcome system alias x (type_named system m x))
type_form system alias (OfModule place n i) m = of_module system alias place i (module_named system n)

-- a written type in a module, where aliases are read as given
unfoldable pub found_by : System → Aliases → Module → TypeExpr → TypeFound
found_by system alias m type = fold-TypeExpr (Module → TypeFound) (type_form system alias) type m

-- the type that a written type stands for, through at most n aliases
unfoldable pub type_through : ℕ → System → Module → TypeExpr → Option Ty
type_through zero system m type = None
type_through (suc n) system m type = (found_by system (type_through n system) m type).type

-- No chain of aliases is longer than the declarations of the design, but one that leads into a cycle: what rests on a cycle has no type.
abbrev pub longest_alias : System → ℕ
longest_alias system = length (flat_map (λ m. m.decls) system.modules)

-- a written type in a module
unfoldable pub type_found : System → Module → TypeExpr → TypeFound
type_found system m type = found_by system (type_through (longest_alias system) system) m type

abbrev pub type_of : System → Module → TypeExpr → Option Ty
type_of system m type = (type_found system m type).type

abbrev pub type_faults : System → Module → TypeExpr → List Fault
type_faults system m type = (type_found system m type).faults

abbrev pub parameter_types : System → Module → List (Parameter TypeExpr) → List (Option Ty)
parameter_types system m ps = map (λ p. type_of system m p.ty) ps

abbrev pub parameter_faults : System → Module → List (Parameter TypeExpr) → List Fault
parameter_faults system m ps = flat_map (λ p. type_faults system m p.ty) ps

-- an argument or the result of a function is a scalar: else a fault at this place
abbrev pub scalar_faults : Place → Option Ty → List Fault
scalar_faults place None = []
scalar_faults place (Some t) = if is_scalar t then [] else breaks ArrayShape place
