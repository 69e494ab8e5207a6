-- The faults of declarations, of modules and of a design.
use Rattle.std.specs.Prelude.{◌≡◌, ℕ, Bool, true, false, not, ◌&&◌, nat_eq, nat_le, if◌then◌else◌, List, [], ◌∷◌, ◌++◌, map, drop, slice_index_or, unwrap_or, Option, Some, None}
use Rattle.std.specs.List.{flat_map, filter_map, list_any, list_all, position_from}
use Rattle.std.specs.Option.{is_some}
use Rattle.std.specs.Str.{bytes_eq}
use Rattle.uc_lexer.specs.declared.place.Place.{Place}
use Rattle.uc_syntax.specs.declared.place.Identifier.{Identifier}
use Rattle.uc_syntax.specs.declared.type_expression.Parameter.{Parameter}
use Rattle.uc_syntax.specs.declared.type_expression.TypeExpr.{TypeExpr}
use Rattle.uc_syntax.specs.declared.expression.Expr.{Expr}
use Rattle.uc_syntax.specs.declared.declaration.Binding.{Binding}
use Rattle.uc_syntax.specs.declared.declaration.Clause.{Clause}
use Rattle.uc_syntax.specs.declared.declaration.Clause.TheVariants.{Requires, Ensures, Modifies}
use Rattle.uc_syntax.specs.declared.declaration.Procedure.{Procedure as ProcedureParts}
use Rattle.uc_syntax.specs.declared.declaration.Command.{Command}
use Rattle.uc_syntax.specs.declared.declaration.Command.TheVariants.{Run, PrintCounterexamples}
use Rattle.uc_syntax.specs.declared.declaration.VariableKind.{VariableKind}
use Rattle.uc_syntax.specs.declared.declaration.VariableKind.TheVariants.{Input, Output}
use Rattle.uc_syntax.specs.declared.declaration.Decl.{Decl}
use Rattle.uc_syntax.specs.declared.declaration.Decl.TheVariants.{OpaqueType, TypeAlias, TypeImport, Variables, Function, Define, Procedure, Instance, Init, Next, Invariant, Axiom, Hyperinvariant, Hyperaxiom, Control}
use Rattle.uc_syntax.specs.declared.declaration.Module.{Module}
use Rattle.uc_syntax.specs.Contents.{Contents}
use Rattle.uc_values.specs.declared.ty.Ty.{Ty}
use Rattle.uc_meaning.specs.Lookup.{System, InstanceParts, system_of, module_named}
use Rattle.uc_rules.specs.declared.fault.Fault.{Fault}
use Rattle.uc_rules.specs.declared.rule.Rule.TheVariants.{UnknownName, DuplicateName, Unbound, NotAssignable, BadCopy}
use Rattle.uc_rules.specs.declared.known.Known.{Known}
use Rattle.uc_rules.specs.declared.known.Role.{Role}
use Rattle.uc_rules.specs.declared.known.Role.TheVariants.{Parameter as ParameterRole, Result as ResultRole}
use Rattle.uc_rules.specs.Faults.{breaks, breaks_where, broken, IsFirst}
use Rattle.uc_rules.specs.Outcomes.{faults_in}
use Rattle.uc_rules.specs.Rows.{same_outcome}
use Rattle.uc_rules.specs.Names.{Valued, ValuedVariable, value_named, instance_named, is_name_of, names_in, repeated_names, repeated_in_list, repeated_in_scope}
use Rattle.uc_rules.specs.Types.{type_of, type_faults, type_found, parameter_faults, scalar_faults}
use Rattle.uc_rules.specs.Reads.{is_state}
use Rattle.uc_rules.specs.Expressions.{Context, Judged, judged, condition_faults}
use Rattle.uc_rules.specs.Statements.{is_written_value, modifies_written, modifies_of, code_faults}
use Rattle.uc_rules.specs.Cycles.{cycle_faults}

-- where the expressions of a module stand, outside all scopes
abbrev pub in_module : System → Module → Context
in_module system m = record {
  system = system;
  home = m;
  bound = [];
  in_next = false;
  in_ensures = false;
  in_axiom = false;
  copies = None;
  modifies = None;
}

-- parameters or results in the scope of what follows, the last one first
abbrev pub with_parameters : System → Module → Role → List (Parameter TypeExpr) → List Known → List Known
with_parameters system m role [] bound = bound
with_parameters system m role (p ∷ ps) bound =
    with_parameters system m role ps (record { name = p.identifier.name; role = role; ty = type_of system m p.ty } ∷ bound)

abbrev pub identifiers_of : List (Parameter TypeExpr) → List Identifier
identifiers_of ps = map (λ p. p.identifier) ps

abbrev pub names_of_parameters : List (Parameter TypeExpr) → List ℕ
names_of_parameters ps = map (λ p. p.identifier.name) ps

-- the parameters of a function, define or procedure, by their names and their types
abbrev pub parameters_found : System → Module → List (Parameter TypeExpr) → List Fault
parameters_found system m ps = repeated_in_scope system m [] (identifiers_of ps) ++ parameter_faults system m ps

-- Functions and defines.

-- the arguments and the result of a function are scalars: else a fault at the parameter's name, or at the first token of the result's type
abbrev pub function_faults : System → Module → List (Parameter TypeExpr) → TypeExpr → List Fault
function_faults system m ps type =
    (parameters_found system m ps ++ type_faults system m type)
    ++ (flat_map (λ p. scalar_faults p.identifier.place (type_of system m p.ty)) ps ++ scalar_faults (type_found system m type).place (type_of system m type))

abbrev pub in_define : System → Module → List (Parameter TypeExpr) → Context
in_define system m ps = record (in_module system m) { bound = with_parameters system m ParameterRole ps [] }

-- the body of a define has its type: else a fault at the word `define`
abbrev pub define_faults : System → Module → Place → List (Parameter TypeExpr) → TypeExpr → Expr → List Fault
define_faults system m place ps type body =
    (parameters_found system m ps ++ type_faults system m type)
    ++ ((judged body (in_define system m ps)).faults ++ faults_in place (same_outcome (judged body (in_define system m ps)).type (type_of system m type)))

-- Procedures.

abbrev pub with_results : System → Module → ProcedureParts → List Known
with_results system m p = with_parameters system m ResultRole p.results (with_parameters system m ParameterRole p.parameters [])

-- `requires` sees the parameters alone
abbrev pub in_requires : System → Module → ProcedureParts → Context
in_requires system m p = record (in_module system m) { bound = with_parameters system m ParameterRole p.parameters [] }

abbrev pub in_ensures_of : System → Module → ProcedureParts → Context
in_ensures_of system m p = record (in_module system m) { bound = with_results system m p; in_ensures = true }

abbrev pub in_body : System → Module → ProcedureParts → Context
in_body system m p = record (in_module system m) { bound = with_results system m p; modifies = Some (modifies_of system m p) }

-- a name to modify is a variable or an output of the module
abbrev pub modifies_faults : System → Module → Identifier → List Fault
modifies_faults system m i =
    if is_written_value (value_named system m i.name) then []
    else breaks (if is_name_of system m i.name then NotAssignable else UnknownName) i.place

abbrev pub clause_faults : System → Module → ProcedureParts → Clause → List Fault
clause_faults system m p (Requires place e) = condition_faults (in_requires system m p) e
clause_faults system m p (Ensures place e) = condition_faults (in_ensures_of system m p) e
clause_faults system m p (Modifies place is) = flat_map (modifies_faults system m) is

abbrev pub procedure_faults : System → Module → ProcedureParts → List Fault
procedure_faults system m p =
    (parameters_found system m p.parameters
    ++ (repeated_in_scope system m (names_of_parameters p.parameters) (identifiers_of p.results) ++ parameter_faults system m p.results))
    ++ ((repeated_in_list (modifies_written p) ++ flat_map (clause_faults system m p) p.clauses) ++ code_faults p.body (in_body system m p))

-- Instances.

-- an output is bound to a variable or an output of the parent, as a name alone
abbrev pub output_typed : Place → Option Ty → List Fault
output_typed place None = []
output_typed place (Some t) = breaks NotAssignable place

abbrev pub output_valued : Place → Option Ty → Option Ty → Option Valued → List Fault
output_valued place t u None = output_typed place t
output_valued place t u (Some v) = if is_written_value (Some v) then faults_in place (same_outcome t u) else breaks NotAssignable place

abbrev pub output_named : System → Module → Place → Option Ty → Option Ty → Option ℕ → List Fault
output_named system m place t u None = output_typed place t
output_named system m place t u (Some x) = output_valued place t u (value_named system m x)

abbrev pub output_bound : System → Module → Place → Judged → Option Ty → List Fault
output_bound system m place e t = output_named system m place e.type t e.name

abbrev pub kind_bound : System → Module → Place → Judged → VariableKind → Option Ty → List Fault
kind_bound system m place e Input t = faults_in place (same_outcome e.type t)
kind_bound system m place e Output t = output_bound system m place e t
kind_bound system m place e other t = breaks UnknownName place

-- a binding's name is an input or an output of the instance's module n; faults are at the name
abbrev pub value_bound : System → Module → Module → Place → Judged → Option Valued → List Fault
value_bound system m n place e (Some (ValuedVariable kind type)) = kind_bound system m place e kind (type_of system n type)
value_bound system m n place e other = breaks UnknownName place

abbrev pub binding_faults : System → Module → Module → Binding → List Fault
binding_faults system m n b =
    value_bound system m n b.identifier.place (judged b.expression (in_module system m)) (value_named system n b.identifier.name)

abbrev pub inputs_in : Decl → List Identifier
inputs_in (Variables place Input is type) = is
inputs_in other = []

-- every input of the instance's module is bound
abbrev pub are_bound : Module → List Binding → Bool
are_bound n bindings = list_all (λ i. list_any (λ b. nat_eq b.identifier.name i.name) bindings) (flat_map inputs_in n.decls)

abbrev pub bindings_found : System → Module → Identifier → Identifier → List Binding → Option Module → List Fault
bindings_found system m i k bindings None = breaks UnknownName k.place
bindings_found system m i k bindings (Some n) = flat_map (binding_faults system m n) bindings ++ breaks_where (not (are_bound n bindings)) Unbound i.place

abbrev pub instance_faults : System → Module → Identifier → Identifier → List Binding → List Fault
instance_faults system m i k bindings =
    (repeated_in_list (map (λ b. b.identifier) bindings) ++ flat_map (λ b. (judged b.expression (in_module system m)).faults) bindings)
    ++ bindings_found system m i k bindings (module_named system k.name)

-- Hyper formulas.

-- a hyper formula speaks of 2 to 8 copies: else a fault at its first token
abbrev pub hyper_faults : System → Module → Place → ℕ → Expr → List Fault
hyper_faults system m place n e =
    breaks_where (not (nat_le 2 n && nat_le n 8)) BadCopy place ++ condition_faults (record (in_module system m) { copies = Some n }) e

-- Control blocks.

abbrev pub command_name : Command → Option Identifier
command_name (Run place name run) = name
command_name other = None

-- where an instance leads, if there is such an instance: to its module, if that is there
abbrev pub home_of_instance : System → Option InstanceParts → Option (Option Module)
home_of_instance system None = None
home_of_instance system (Some p) = Some (module_named system p.module_name)

-- Whether a path leads by instances to a variable, input or output. One through an instance whose module isn't there is left open, since that
-- is a fault where the instance is declared.
unfoldable pub path_is_there : System → Option (Option Module) → List Identifier → Bool
path_is_there system home [] = false
path_is_there system None (i ∷ path) = false
path_is_there system (Some None) (i ∷ path) = true
path_is_there system (Some (Some m)) (i ∷ []) = is_state (value_named system m i.name)
path_is_there system (Some (Some m)) (i ∷ (j ∷ path)) = path_is_there system (home_of_instance system (instance_named system m i.name)) (j ∷ path)

-- a path that isn't there is a fault at its first token
abbrev pub path_faults : System → Module → List Identifier → List Fault
path_faults system m [] = []
path_faults system m (i ∷ path) = breaks_where (not (path_is_there system (Some (Some m)) (i ∷ path))) UnknownName i.place

abbrev pub command_faults : System → Module → Command → List Fault
command_faults system m (PrintCounterexamples place name (Some paths)) = flat_map (path_faults system m) paths
command_faults system m other = []

abbrev pub control_faults : System → Module → List Command → List Fault
control_faults system m commands = repeated_in_list (filter_map command_name commands) ++ flat_map (command_faults system m) commands

-- Declarations.

abbrev pub declaration_faults : System → Module → Decl → List Fault
declaration_faults system m (OpaqueType place i) = []
declaration_faults system m (TypeAlias place i type) = type_faults system m type
declaration_faults system m (TypeImport place n) = breaks_where (not (is_some (module_named system n.name))) UnknownName n.place
declaration_faults system m (Variables place kind is type) = type_faults system m type
declaration_faults system m (Function place i ps type) = function_faults system m ps type
declaration_faults system m (Define place i ps type body) = define_faults system m place ps type body
declaration_faults system m (Procedure place p) = procedure_faults system m p
declaration_faults system m (Instance place i k bindings) = instance_faults system m i k bindings
declaration_faults system m (Init place block) = code_faults block (in_module system m)
declaration_faults system m (Next place block) = code_faults block (record (in_module system m) { in_next = true })
declaration_faults system m (Invariant place i e) = condition_faults (in_module system m) e
declaration_faults system m (Axiom place i e) = condition_faults (record (in_module system m) { in_axiom = true }) e
declaration_faults system m (Hyperinvariant place n i e) = hyper_faults system m place n e
declaration_faults system m (Hyperaxiom place n i e) = hyper_faults system m place n e
declaration_faults system m (Control place commands) = control_faults system m commands

-- Modules.

abbrev pub init_place : Decl → Option Place
init_place (Init place block) = Some place
init_place other = None

abbrev pub next_place : Decl → Option Place
next_place (Next place block) = Some place
next_place other = None

abbrev pub control_place : Decl → Option Place
control_place (Control place commands) = Some place
control_place other = None

-- a second block of a kind, and each one after it, is a fault at its first token
abbrev pub repeated_block : (Decl → Option Place) → Module → List Fault
repeated_block which m = map (broken DuplicateName) (drop 1 (filter_map which m.decls))

-- the faults of a module's names: each at the later place
abbrev pub naming_faults : System → Module → List Fault
naming_faults system m =
    repeated_names system [] (names_in system m) ++ (repeated_block init_place m ++ (repeated_block next_place m ++ repeated_block control_place m))

abbrev pub module_faults : System → Module → List Fault
module_faults system m = (naming_faults system m ++ cycle_faults system m) ++ flat_map (declaration_faults system m) m.decls

-- Designs.

abbrev pub module_identifier : Module → Identifier
module_identifier m = record { place = m.place; name = m.name }

-- a module whose name an earlier one has is a fault at its first token
abbrev pub repeated_modules : List Module → List Fault
repeated_modules ms = repeated_in_list (map module_identifier ms)

-- the place of the first module whose name has this text
abbrev pub main_number : Contents → List ℕ → Option ℕ
main_number d main = position_from (λ m. bytes_eq main (slice_index_or d.names m.name [])) 0 d.modules

-- the first place of the first file
abbrev pub beginning : Place
beginning = record { file = 0; line = 1; col = 1 }

-- a main that isn't there is a fault at the first place of the first file
abbrev pub main_faults : Option ℕ → List Fault
main_faults None = breaks UnknownName beginning
main_faults (Some k) = []

-- a design with the number of main
abbrev pub system_with : Contents → List ℕ → System
system_with d main = system_of d (unwrap_or (main_number d main) 0)

-- All faults of a design, in no order.
unfoldable pub design_faults : Contents → List ℕ → List Fault
design_faults d main =
    main_faults (main_number d main) ++ (repeated_modules d.modules ++ flat_map (module_faults (system_with d main)) d.modules)

-- No rule is broken.
abbrev pub KeepsRules : Contents → List ℕ → Type 0
KeepsRules d main = design_faults d main ≡ []

-- A fault of the first place and, there, of the least number.
abbrev pub IsFirstFault : Contents → List ℕ → Fault → Type 0
IsFirstFault d main f = IsFirst f (design_faults d main)
