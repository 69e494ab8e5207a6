-- The modules in use, the instances, the cells of a state, and the constants and functions of an interpretation.
use Rattle.std.specs.Prelude.{ℕ, zero, suc, Bool, true, false, not, ◌&&◌, nat_eq, List, [], ◌∷◌, ◌++◌, map, Option, Some, None, is_some, IsTrue, unwrap_or}
use Rattle.std.specs.List.{filter, list_any, flat_map, position_from}
use Rattle.uc_syntax.specs.declared.declaration.Decl.{Decl}
use Rattle.uc_syntax.specs.declared.declaration.Decl.TheVariants.{Variables, Function}
use Rattle.uc_syntax.specs.declared.declaration.VariableKind.{VariableKind}
use Rattle.uc_syntax.specs.declared.declaration.VariableKind.TheVariants.{Variable, Input, Output, Constant}
use Rattle.uc_syntax.specs.declared.declaration.Module.{Module}
use Rattle.uc_values.specs.declared.ty.Ty.{Ty}
use Rattle.uc_values.specs.declared.value.Value.{Value}
use Rattle.uc_values.specs.declared.table.Table.{Table}
use Rattle.uc_values.specs.declared.table.Row.{Row}
use Rattle.uc_values.specs.Values.{fits}
use Rattle.uc_meaning.specs.declared.scope.Interp.{Interp}
use Rattle.uc_meaning.specs.declared.scope.State.{State}
use Rattle.uc_meaning.specs.Lookup.{System, InstanceParts, instances_of, module_named, main_module, bound_to}
use Rattle.uc_meaning.specs.Types.{type_of_written}

-- how many modules stand on one chain of instances at most, and how many defines, procedures and bindings of inputs on one chain of uses and calls
abbrev pub longest_chain : ℕ
longest_chain = 32

unfoldable pub same_path : List ℕ → List ℕ → Bool
same_path [] [] = true
same_path (i ∷ p) (j ∷ q) = nat_eq i j && same_path p q
same_path [] (j ∷ q) = false
same_path (i ∷ p) [] = false

-- the module of an instance, as a list of one or none
abbrev pub as_list : {A : Type 0} → Option A → List A
as_list None = []
as_list (Some x) = x ∷ []

abbrev pub module_of_instance : System → InstanceParts → List Module
module_of_instance system i = as_list (module_named system i.module_name)

-- An instance at its path, with its module and what its parent binds; main has the empty path and binds nothing.
pub record InstanceAt : Type 0 where
  pub path : List ℕ
  pub code : Module
  pub is_bound : ℕ → Bool

-- the instances that a module declares, at their paths, in order
abbrev pub instances_below : System → InstanceAt → List InstanceAt
instances_below system here =
    flat_map (λ i. map (λ m. record { path = here.path ++ i.name ∷ []; code = m; is_bound = λ x. is_some (bound_to i x) }) (module_of_instance system i)) (instances_of here.code)

-- the instances from one down, each before those inside it, on chains of at most n modules
unfoldable pub instances_from : ℕ → System → InstanceAt → List InstanceAt
instances_from zero system here = []
instances_from (suc n) system here = here ∷ flat_map (instances_from n system) (instances_below system here)

abbrev pub main_instance : Module → InstanceAt
main_instance m = record { path = []; code = m; is_bound = λ x. false }

-- main and all instances below it, depth first, in order of declaration
unfoldable pub instances : System → List InstanceAt
instances system = flat_map (λ m. instances_from longest_chain system (main_instance m)) (as_list (main_module system))

-- the modules in use, in the order of the design: those of main and of the instances below it
unfoldable pub modules_in_use : System → List Module
modules_in_use system = filter (λ m. list_any (λ i. nat_eq i.code.name m.name) (instances system)) system.modules

-- A cell of a state: where it is declared, and its type.
pub record Cell : Type 0 where
  pub path : List ℕ
  pub name : ℕ
  pub kind : VariableKind
  pub type : Ty

abbrev pub is_main : List ℕ → Bool
is_main [] = true
is_main (i ∷ path) = false

-- a variable is a cell; an input is one of main alone; an output is one where it is not bound
abbrev pub is_cell : InstanceAt → VariableKind → ℕ → Bool
is_cell here Variable x = true
is_cell here Input x = is_main here.path
is_cell here Output x = not (here.is_bound x)
is_cell here Constant x = false

abbrev pub cells_in : System → InstanceAt → Decl → List Cell
cells_in system here (Variables place kind names type) =
    map (λ i. record { path = here.path; name = i.name; kind = kind; type = type_of_written system here.code type }) (filter (λ i. is_cell here kind i.name) names)
cells_in system here other = []

-- the cells of a state, in their order
unfoldable pub cells_of : System → List Cell
cells_of system = flat_map (λ here. flat_map (cells_in system here) here.code.decls) (instances system)

-- the place of a name's cell among the cells
unfoldable pub cell_of : System → List ℕ → ℕ → Option ℕ
cell_of system path x = position_from (λ c. same_path c.path path && nat_eq c.name x) 0 (cells_of system)

-- A constant or a function of a module in use.
pub record Symbol : Type 0 where
  pub module_name : ℕ
  pub name : ℕ

-- A constant with its type.
pub record ConstantParts : Type 0 where
  pub symbol : Symbol
  pub type : Ty

abbrev pub constants_in : System → Module → Decl → List ConstantParts
constants_in system m (Variables place Constant names type) =
    map (λ i. record { symbol = record { module_name = m.name; name = i.name }; type = type_of_written system m type }) names
constants_in system m other = []

-- the constants of the modules in use, by module and declaration
unfoldable pub constants_of : System → List ConstantParts
constants_of system = flat_map (λ m. flat_map (constants_in system m) m.decls) (modules_in_use system)

-- A function with the types of its arguments and of its result.
pub record FunctionParts : Type 0 where
  pub symbol : Symbol
  pub arguments : List Ty
  pub result : Ty

abbrev pub functions_in : System → Module → Decl → List FunctionParts
functions_in system m (Function place i parameters type) =
    record {
      symbol = record { module_name = m.name; name = i.name };
      arguments = map (λ p. type_of_written system m p.ty) parameters;
      result = type_of_written system m type;
    } ∷ []
functions_in system m other = []

-- the functions of the modules in use, by module and declaration
unfoldable pub functions_of : System → List FunctionParts
functions_of system = flat_map (λ m. flat_map (functions_in system m) m.decls) (modules_in_use system)

abbrev pub is_symbol : ℕ → ℕ → Symbol → Bool
is_symbol m x s = nat_eq s.module_name m && nat_eq s.name x

-- the number of a constant, and of a function, in an interpretation
unfoldable pub constant_number : System → Module → ℕ → ℕ
constant_number system m x = unwrap_or (position_from (λ c. is_symbol m.name x c.symbol) 0 (constants_of system)) 0

unfoldable pub function_number : System → Module → ℕ → ℕ
function_number system m x = unwrap_or (position_from (λ f. is_symbol m.name x f.symbol) 0 (functions_of system)) 0

-- there is one value for each type, and it fits it
unfoldable pub FitAll : List Ty → List Value → Type 0
FitAll [] [] = Unit {0}
FitAll (t ∷ ts) (v ∷ vs) = IsTrue (fits t v) × FitAll ts vs
FitAll [] (v ∷ vs) = ⊥
FitAll (t ∷ ts) [] = ⊥

-- each row of a table has fitting arguments and a fitting result
unfoldable pub FitRows : FunctionParts → List Row → Type 0
FitRows f [] = Unit {0}
FitRows f (row ∷ rows) = FitAll f.arguments row.arguments × IsTrue (fits f.result row.result) × FitRows f rows

unfoldable pub FitTables : List FunctionParts → List Table → Type 0
FitTables [] [] = Unit {0}
FitTables (f ∷ fs) (t ∷ ts) = FitRows f t.rows × IsTrue (fits f.result t.default) × FitTables fs ts
FitTables [] (t ∷ ts) = ⊥
FitTables (f ∷ fs) [] = ⊥

-- an interpretation has a fitting value for each constant and a fitting table for each function
pub record IsInterpretation (system : System) (i : Interp) : Type 0 where
  pub constants : FitAll (map (λ c. c.type) (constants_of system)) i.consts
  pub tables : FitTables (functions_of system) i.tables

-- a state has a fitting value for each cell
abbrev pub IsState : System → State → Type 0
IsState system s = FitAll (map (λ c. c.type) (cells_of system)) s.cells
