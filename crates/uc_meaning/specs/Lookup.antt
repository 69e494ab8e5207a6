-- What a name stands for: the modules of a design and what they declare.
use Rattle.std.specs.Prelude.{ℕ, Bool, true, false, ◌&&◌, nat_eq, List, [], ◌∷◌, slice_get, Option, Some, None}
use Rattle.std.specs.Option.{option_map, option_and_then}
use Rattle.std.specs.List.{find, list_any, flat_map, filter_map}
use Rattle.uc_syntax.specs.Contents.{Contents}
use Rattle.uc_lexer.specs.declared.place.Place.{Place}
use Rattle.uc_syntax.specs.declared.place.Identifier.{Identifier}
use Rattle.uc_syntax.specs.declared.type_expression.TypeExpr.{TypeExpr}
use Rattle.uc_syntax.specs.declared.type_expression.Parameter.{Parameter}
use Rattle.uc_syntax.specs.declared.expression.Expr.{Expr}
use Rattle.uc_syntax.specs.declared.statement.Stmt.{Stmt}
use Rattle.uc_syntax.specs.declared.declaration.Decl.{Decl}
use Rattle.uc_syntax.specs.declared.declaration.Decl.TheVariants.{Variables, Function, Define, Procedure, Instance, Init, Next, Invariant, Axiom, Hyperinvariant, Hyperaxiom}
use Rattle.uc_syntax.specs.declared.declaration.Procedure.{Procedure as ProcedureParts}
use Rattle.uc_syntax.specs.declared.declaration.VariableKind.{VariableKind}
use Rattle.uc_syntax.specs.declared.declaration.Binding.{Binding}
use Rattle.uc_syntax.specs.declared.declaration.Module.{Module}

-- A design: the texts of its names, the numbers of its files' names, its modules, and the place of main among them.
pub record System : Type 0 where
  pub names : List (List ℕ)
  pub files : List ℕ
  pub modules : List Module
  pub main : ℕ

-- a design's contents with the number of main
abbrev pub system_of : Contents → ℕ → System
system_of d main = record { names = d.names; files = d.files; modules = d.modules; main = main }

abbrev pub or_else : {B : Type 0} → Option B → Option B → Option B
or_else (Some y) o = Some y
or_else None o = o

-- the first answer along a list
unfoldable pub first_some : {A B : Type 0} → (A → Option B) → List A → Option B
first_some f [] = None
first_some f (x ∷ xs) = or_else (f x) (first_some f xs)

abbrev pub some_if : {B : Type 0} → Bool → B → Option B
some_if true y = Some y
some_if false y = None

abbrev pub same_place : Place → Place → Bool
same_place p q = nat_eq p.file q.file && (nat_eq p.line q.line && nat_eq p.col q.col)

abbrev pub is_named : ℕ → Identifier → Bool
is_named x i = nat_eq i.name x

abbrev pub names_one : ℕ → List Identifier → Bool
names_one x is = list_any (is_named x) is

-- the module of a name
abbrev pub module_named : System → ℕ → Option Module
module_named system m = find (λ n. nat_eq n.name m) system.modules

-- a variable, input, output or constant: its kind and its type
abbrev pub variable_in : ℕ → Decl → Option (VariableKind × TypeExpr)
variable_in x (Variables place kind names type) = some_if (names_one x names) (kind, type)
variable_in x other = None

abbrev pub variable_of : Module → ℕ → Option (VariableKind × TypeExpr)
variable_of m x = first_some (variable_in x) m.decls

-- What a define says: its parameters, its type and its body.
pub record Defined : Type 0 where
  pub parameters : List (Parameter TypeExpr)
  pub type : TypeExpr
  pub body : Expr

abbrev pub define_in : ℕ → Decl → Option Defined
define_in x (Define place i parameters type body) = some_if (is_named x i) (record { parameters = parameters; type = type; body = body })
define_in x other = None

abbrev pub define_of : Module → ℕ → Option Defined
define_of m x = first_some (define_in x) m.decls

-- What a function says: its parameters and the type of its results.
pub record Signature : Type 0 where
  pub parameters : List (Parameter TypeExpr)
  pub type : TypeExpr

abbrev pub function_in : ℕ → Decl → Option Signature
function_in x (Function place i parameters type) = some_if (is_named x i) (record { parameters = parameters; type = type })
function_in x other = None

abbrev pub function_of : Module → ℕ → Option Signature
function_of m x = first_some (function_in x) m.decls

abbrev pub procedure_in : ℕ → Decl → Option ProcedureParts
procedure_in x (Procedure place p) = some_if (is_named x p.identifier) p
procedure_in x other = None

abbrev pub procedure_of : Module → ℕ → Option ProcedureParts
procedure_of m x = first_some (procedure_in x) m.decls

-- An instance: its name, the name of its module and what is bound.
pub record InstanceParts : Type 0 where
  pub name : ℕ
  pub module_name : ℕ
  pub bindings : List Binding

abbrev pub instance_in : Decl → Option InstanceParts
instance_in (Instance place i m bindings) = Some (record { name = i.name; module_name = m.name; bindings = bindings })
instance_in other = None

-- the instances of a module, in order
abbrev pub instances_of : Module → List InstanceParts
instances_of m = filter_map instance_in m.decls

abbrev pub instance_of : Module → ℕ → Option InstanceParts
instance_of m x = find (λ i. nat_eq i.name x) (instances_of m)

-- the expression that is bound to a name of an instance's module
abbrev pub bound_to : InstanceParts → ℕ → Option Expr
bound_to i x = first_some (λ b. some_if (is_named x b.identifier) b.expression) i.bindings

abbrev pub init_in : Decl → List Stmt
init_in (Init place block) = block
init_in other = []

-- the init block of a module; none is the empty block
abbrev pub init_of : Module → List Stmt
init_of m = flat_map init_in m.decls

abbrev pub next_in : Decl → List Stmt
next_in (Next place block) = block
next_in other = []

-- the next block of a module; none is the empty block
abbrev pub next_of : Module → List Stmt
next_of m = flat_map next_in m.decls

abbrev pub axiom_in : Decl → Option Expr
axiom_in (Axiom place name formula) = Some formula
axiom_in other = None

abbrev pub axioms_of : Module → List Expr
axioms_of m = filter_map axiom_in m.decls

abbrev pub invariant_in : Decl → Option Expr
invariant_in (Invariant place name formula) = Some formula
invariant_in other = None

abbrev pub hyperinvariant_in : Decl → Option (ℕ × Expr)
hyperinvariant_in (Hyperinvariant place arity name formula) = Some (arity, formula)
hyperinvariant_in other = None

abbrev pub hyperaxiom_in : Decl → Option (ℕ × Expr)
hyperaxiom_in (Hyperaxiom place arity name formula) = Some (arity, formula)
hyperaxiom_in other = None

-- the module of the instance at the end of a path, from a module down
unfoldable pub module_from : System → Module → List ℕ → Option Module
module_from system m [] = Some m
module_from system m (i ∷ path) =
    option_and_then (λ n. module_from system n path) (option_and_then (λ p. module_named system p.module_name) (instance_of m i))

abbrev pub main_module : System → Option Module
main_module system = slice_get system.modules system.main

abbrev pub module_at : System → List ℕ → Option Module
module_at system path = option_and_then (λ m. module_from system m path) (main_module system)

-- a path without its last instance, and that instance
unfoldable pub parent_of : List ℕ → Option (List ℕ × ℕ)
parent_of [] = None
parent_of (i ∷ []) = Some ([], i)
parent_of (i ∷ (j ∷ path)) = option_map (λ p. (i ∷ p.0, p.1)) (parent_of (j ∷ path))
