-- The names of a module, in the order of the text, and what each stands for.
use Rattle.std.specs.Prelude.{ℕ, ◌+◌, Bool, true, false, not, ◌&&◌, ◌||◌, nat_eq, List, [], ◌∷◌, ◌++◌, map, slice_index_or, Option, Some, None, codes}
use Rattle.std.specs.List.{find, list_any, flat_map}
use Rattle.std.specs.Option.{option_map}
use Rattle.std.specs.Str.{bytes_eq}
use Rattle.uc_lexer.specs.declared.place.Place.{Place}
use Rattle.uc_syntax.specs.declared.place.Identifier.{Identifier}
use Rattle.uc_syntax.specs.declared.type_expression.TypeExpr.{TypeExpr}
use Rattle.uc_syntax.specs.declared.type_expression.TypeExpr.TheOpen.{TypeExpr-F}
use Rattle.uc_syntax.specs.declared.type_expression.TypeExpr.TheOpen.TypeExpr-F.{Enumeration, Record, Array, OfModule}
use Rattle.uc_syntax.specs.declared.type_expression.TypeExpr.TheFolds.{fold-TypeExpr}
use Rattle.uc_syntax.specs.declared.declaration.Decl.{Decl}
use Rattle.uc_syntax.specs.declared.declaration.Decl.TheVariants.{OpaqueType, TypeAlias, TypeImport, Variables, Function, Define, Procedure, Instance, Invariant, Axiom, Hyperinvariant, Hyperaxiom}
use Rattle.uc_syntax.specs.declared.declaration.Procedure.{Procedure as ProcedureParts}
use Rattle.uc_syntax.specs.declared.declaration.VariableKind.{VariableKind}
use Rattle.uc_syntax.specs.declared.declaration.Module.{Module}
use Rattle.uc_syntax.specs.WrittenTypes.{types_in, enums_of_module}
use Rattle.uc_meaning.specs.Lookup.{System, Defined, Signature, InstanceParts, first_some, module_named}
use Rattle.uc_meaning.specs.Types.{TypeEntry, Alias, Opaque, type_entry, enum_number}
use Rattle.uc_rules.specs.declared.fault.Fault.{Fault}
use Rattle.uc_rules.specs.declared.rule.Rule.TheVariants.{DuplicateName}
use Rattle.uc_rules.specs.Faults.{breaks_where}

-- What a name of a module stands for: a type, with the module that declares it, a variable, input, output or constant, a label of an
-- enum, by the number of the enum and the label's place in it, and so on.
pub data Sense : Type 0 where
  SenseType : Module → TypeEntry → Sense
  SenseVariable : VariableKind → TypeExpr → Sense
  SenseLabel : ℕ → ℕ → Sense
  SenseFunction : Signature → Sense
  SenseDefine : Defined → Sense
  SenseProcedure : ProcedureParts → Sense
  SenseInstance : InstanceParts → Sense
  SenseFormula : Sense

-- A name as a module declares it or brings it in, with the place where it does so.
pub record Entry : Type 0 where
  pub identifier : Identifier
  pub sense : Sense

abbrev pub enters : Identifier → Sense → Entry
enters i sense = record { identifier = i; sense = sense }

abbrev pub name_at : Place → ℕ → Identifier
name_at place x = record { place = place; name = x }

-- the labels of an enum, from a place in it on
abbrev pub labels_from : ℕ → ℕ → List Identifier → List Entry
labels_from e k [] = []
labels_from e k (l ∷ ls) = enters l (SenseLabel e k) ∷ labels_from e (k + 1) ls

-- the labels of all enums that a module writes, as they are brought in at a place
abbrev pub labels_brought : System → Place → Option Module → List Entry
labels_brought system place None = []
labels_brought system place (Some m) = flat_map (λ e. labels_from (enum_number system e.place) 0 (map (name_at place) e.labels)) (enums_of_module m)

-- the types that a module declares, as they are brought in at a place
abbrev pub type_brought : Place → Module → Decl → List Entry
type_brought place m (OpaqueType p i) = enters (name_at place i.name) (SenseType m Opaque) ∷ []
type_brought place m (TypeAlias p i type) = enters (name_at place i.name) (SenseType m (Alias type)) ∷ []
type_brought place m other = []

abbrev pub types_brought : Place → Option Module → List Entry
types_brought place None = []
types_brought place (Some m) = flat_map (type_brought place m) m.decls

-- the labels that a written type declares, and those that it brings in: `m.t` brings in the labels of all enums of m
abbrev pub labels_form : System → TypeExpr-F (List Entry) → List Entry
labels_form system (Enumeration place labels) = labels_from (enum_number system place) 0 labels
labels_form system (OfModule place m i) = labels_brought system place (module_named system m)
labels_form system (Record place ps) = flat_map (λ p. p.ty) ps
labels_form system (Array place index element) = index ++ element
labels_form system other = []

unfoldable pub labels_in : System → TypeExpr → List Entry
labels_in system = fold-TypeExpr (List Entry) (labels_form system)

abbrev pub formula_name : Option Identifier → List Entry
formula_name None = []
formula_name (Some i) = enters i SenseFormula ∷ []

-- the names that a declaration begins with
abbrev pub names_of : System → Module → Decl → List Entry
names_of system m (OpaqueType place i) = enters i (SenseType m Opaque) ∷ []
names_of system m (TypeAlias place i type) = enters i (SenseType m (Alias type)) ∷ []
names_of system m (TypeImport place n) = types_brought place (module_named system n.name) ++ labels_brought system place (module_named system n.name)
names_of system m (Variables place kind is type) = map (λ i. enters i (SenseVariable kind type)) is
names_of system m (Function place i ps type) = enters i (SenseFunction (record { parameters = ps; type = type })) ∷ []
names_of system m (Define place i ps type body) = enters i (SenseDefine (record { parameters = ps; type = type; body = body })) ∷ []
names_of system m (Procedure place p) = enters p.identifier (SenseProcedure p) ∷ []
names_of system m (Instance place i n bindings) = enters i (SenseInstance (record { name = i.name; module_name = n.name; bindings = bindings })) ∷ []
names_of system m (Invariant place i e) = formula_name (Some i)
names_of system m (Axiom place i e) = formula_name i
names_of system m (Hyperinvariant place n i e) = formula_name (Some i)
names_of system m (Hyperaxiom place n i e) = formula_name (Some i)
names_of system m other = []

-- the names of a module: those that each declaration begins with, and then the labels of the types that it writes
unfoldable pub names_in : System → Module → List Entry
names_in system m = flat_map (λ d. names_of system m d ++ flat_map (labels_in system) (types_in d)) m.decls

-- The names of the functions on bits are declared in every module.
abbrev pub bit_functions : List (List ℕ)
bit_functions =
    codes "bv_zero_extend" ∷ codes "bv_sign_extend" ∷ codes "bv_left_shift" ∷ codes "bv_l_right_shift" ∷ codes "bv_a_right_shift" ∷ []

unfoldable pub is_bit_function : System → ℕ → Bool
is_bit_function system x = list_any (bytes_eq (slice_index_or system.names x [])) bit_functions

-- What a name means where it is used: the first declaration of a fitting kind.

abbrev pub is_entry : ℕ → Entry → Bool
is_entry x e = nat_eq e.identifier.name x

abbrev pub only_if : {B : Type 0} → Bool → Option B → Option B
only_if true o = o
only_if false o = None

unfoldable pub first_fitting : {B : Type 0} → (Sense → Option B) → ℕ → List Entry → Option B
first_fitting fit x es = first_some (λ e. only_if (is_entry x e) (fit e.sense)) es

-- What a name is as a value: a variable, input, output or constant of a written type, or a label.
pub data Valued : Type 0 where
  ValuedVariable : VariableKind → TypeExpr → Valued
  ValuedLabel : ℕ → Valued

abbrev pub as_value : Sense → Option Valued
as_value (SenseVariable kind type) = Some (ValuedVariable kind type)
as_value (SenseLabel e k) = Some (ValuedLabel e)
as_value other = None

-- What a name is where arguments follow: a function or a define.
pub data Called : Type 0 where
  CalledFunction : Signature → Called
  CalledDefine : Defined → Called

abbrev pub as_called : Sense → Option Called
as_called (SenseFunction s) = Some (CalledFunction s)
as_called (SenseDefine d) = Some (CalledDefine d)
as_called other = None

abbrev pub as_type : Sense → Option (Module × TypeEntry)
as_type (SenseType m entry) = Some (m, entry)
as_type other = None

abbrev pub as_procedure : Sense → Option ProcedureParts
as_procedure (SenseProcedure p) = Some p
as_procedure other = None

abbrev pub as_instance : Sense → Option InstanceParts
as_instance (SenseInstance i) = Some i
as_instance other = None

abbrev pub value_named : System → Module → ℕ → Option Valued
value_named system m x = first_fitting as_value x (names_in system m)

abbrev pub called_named : System → Module → ℕ → Option Called
called_named system m x = first_fitting as_called x (names_in system m)

abbrev pub type_named : System → Module → ℕ → Option (Module × TypeEntry)
type_named system m x = first_fitting as_type x (names_in system m)

abbrev pub procedure_named : System → Module → ℕ → Option ProcedureParts
procedure_named system m x = first_fitting as_procedure x (names_in system m)

abbrev pub instance_named : System → Module → ℕ → Option InstanceParts
instance_named system m x = first_fitting as_instance x (names_in system m)

-- the type of a name that a module itself declares, as `m.t` means it
abbrev pub type_of_module : Module → ℕ → Option (Module × TypeEntry)
type_of_module m x = option_map (λ entry. (m, entry)) (type_entry m x)

-- whether a name is one of a module, or that of a function on bits
abbrev pub is_name_of : System → Module → ℕ → Bool
is_name_of system m x = is_bit_function system x || list_any (is_entry x) (names_in system m)

-- Names that are declared again.

-- one label that is brought twice is one name
abbrev pub same_label : Sense → Sense → Bool
same_label (SenseLabel e k) (SenseLabel f l) = nat_eq e f && nat_eq k l
same_label s t = false

-- a name that an earlier entry has, which isn't the same label
abbrev pub is_taken : Entry → Option Entry → Bool
is_taken e None = false
is_taken e (Some first) = not (same_label first.sense e.sense)

-- the names of a list that an earlier one has, or a function on bits: each at the later place
unfoldable pub repeated_names : System → List Entry → List Entry → List Fault
repeated_names system earlier [] = []
repeated_names system earlier (e ∷ es) =
    breaks_where (is_bit_function system e.identifier.name || is_taken e (find (is_entry e.identifier.name) earlier)) DuplicateName e.identifier.place
    ++ repeated_names system (earlier ++ e ∷ []) es

abbrev pub names_one_of : List ℕ → ℕ → Bool
names_one_of earlier x = list_any (nat_eq x) earlier

-- a list of names in which one is declared again: one that is taken outside, or that the list has before
unfoldable pub repeated_in : (ℕ → Bool) → List ℕ → List Identifier → List Fault
repeated_in taken earlier [] = []
repeated_in taken earlier (i ∷ is) = breaks_where (taken i.name || names_one_of earlier i.name) DuplicateName i.place ++ repeated_in taken (earlier ++ i.name ∷ []) is

-- fields, bindings, names to modify and command names: a list of its own
abbrev pub repeated_in_list : List Identifier → List Fault
repeated_in_list is = repeated_in (λ x. false) [] is

-- parameters, results, locals and loop variables: none is a name of the module or of an enclosing scope
abbrev pub repeated_in_scope : System → Module → List ℕ → List Identifier → List Fault
repeated_in_scope system m enclosing is = repeated_in (is_name_of system m) enclosing is
