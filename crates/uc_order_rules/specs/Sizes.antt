-- What a design expands to, and its limits.
use Rattle.std.specs.Prelude.{ℕ, zero, suc, ◌+◌, ◌*◌, Bool, true, false, ◌||◌, nat_lt, nat_eq, if◌then◌else◌, List, [], ◌∷◌, ◌++◌, map, length, Option, Some, None}
use Rattle.std.specs.List.{flat_map, list_any}
use Rattle.std.specs.Option.{option_and_then}
use Rattle.uc_lexer.specs.declared.place.Place.{Place}
use Rattle.uc_syntax.specs.declared.expression.Expr.{Expr}
use Rattle.uc_syntax.specs.declared.expression.Expr.TheOpen.{Expr-F}
use Rattle.uc_syntax.specs.declared.expression.Expr.TheOpen.Expr-F.{If, Iff, Implies, Or, And, Compare, BitOr, BitXor, BitAnd, Concat, Sum, Product, Unary, Selected}
use Rattle.uc_syntax.specs.declared.expression.Expr.TheFolds.{fold-Expr}
use Rattle.uc_syntax.specs.declared.expression.Primary.{Primary}
use Rattle.uc_syntax.specs.declared.expression.Primary.TheVariants.{Name, Apply, OnBits, Old, Grouped}
use Rattle.uc_syntax.specs.declared.expression.BitFunction.{BitFunction}
use Rattle.uc_syntax.specs.declared.expression.Selection.{Selection}
use Rattle.uc_syntax.specs.declared.expression.Selection.TheVariants.{Element, Update}
use Rattle.uc_syntax.specs.declared.statement.Target.{Target}
use Rattle.uc_syntax.specs.declared.statement.Arm.{Arm}
use Rattle.uc_syntax.specs.declared.statement.Stmt.{Stmt}
use Rattle.uc_syntax.specs.declared.statement.Stmt.TheOpen.{Stmt-F}
use Rattle.uc_syntax.specs.declared.statement.Stmt.TheOpen.Stmt-F.{Local as Declare, Skip, Block, Assert, Assume, Havoc, Assign, If as Choice, Case as Cases, For, Call, Next}
use Rattle.uc_syntax.specs.declared.statement.Stmt.TheFolds.{fold-Stmt}
use Rattle.uc_syntax.specs.declared.declaration.Procedure.{Procedure as ProcedureParts}
use Rattle.uc_syntax.specs.declared.declaration.Decl.{Decl}
use Rattle.uc_syntax.specs.declared.declaration.Decl.TheVariants.{Procedure, Init, Next as NextBlock, Invariant, Hyperinvariant, Hyperaxiom}
use Rattle.uc_syntax.specs.declared.declaration.Module.{Module}
use Rattle.uc_syntax.specs.WrittenTypes.{Written, enums_of_module}
use Rattle.uc_meaning.specs.Lookup.{System, Defined, module_at, define_of, procedure_of, next_of, init_of, axioms_of, main_module}
use Rattle.uc_meaning.specs.Cells.{longest_chain, InstanceAt, as_list, cells_of, modules_in_use}
use Rattle.uc_meaning.specs.Expressions.{binding_of}
use Rattle.uc_meaning.specs.Code.{turns, requires_of}
use Rattle.uc_meaning.specs.Steps.{main_next}
use Rattle.uc_rules.specs.declared.fault.Fault.{Fault}
use Rattle.uc_rules.specs.declared.rule.Rule.TheVariants.{TooLarge}
use Rattle.uc_rules.specs.Faults.{breaks_where}
use Rattle.uc_rules.specs.Cycles.{instance_steps}
use Rattle.uc_rules.specs.Expressions.{is_extension}
use Rattle.uc_order_rules.specs.Roots.{NameAt, name_at, led, is_bound_input, instances_in}
use Rattle.uc_order_rules.specs.Mentions.{dotted, target_indices, all_of, otherwise_of}
use Rattle.uc_order_rules.specs.Uses.{clause_expressions, has_way}

-- The limits. A design that passes one is refused; one that just reaches it is not.

-- how many labels an enum has at most
abbrev pub most_labels : ℕ
most_labels = 4096

-- how many turns a loop has at most
abbrev pub most_turns : ℕ
most_turns = 4096

-- how many statements main expands to at most: each one again for each turn, call and step
abbrev pub most_statements : ℕ
most_statements = 1000000

-- how many nodes the expressions have at most that main expands to: each body of a define and each bound expression again for each use
abbrev pub most_nodes : ℕ
most_nodes = 4000000

-- how many cells a state has at most
abbrev pub most_cells : ℕ
most_cells = 65535

-- how many instances stand below a root at most, which is none of them itself
abbrev pub most_instances : ℕ
most_instances = 65535

-- the sum of numbers
abbrev pub total : List ℕ → ℕ
total [] = 0
total (n ∷ ns) = n + total ns

-- The nodes of an expression.

-- How many nodes an expression elsewhere has: the body of a define, or what is bound to an input.
abbrev pub Elsewhere : Type 0
Elsewhere = List ℕ → Expr → ℕ

abbrev pub binding_nodes : Elsewhere → Option (List ℕ × Expr) → ℕ
binding_nodes elsewhere None = 0
binding_nodes elsewhere (Some b) = elsewhere b.0 b.1

-- a read of a bound input has the nodes of what is bound to it too
abbrev pub name_nodes : System → Elsewhere → NameAt → ℕ
name_nodes system elsewhere n = if is_bound_input system n then binding_nodes elsewhere (binding_of system n.path n.name) else 0

abbrev pub body_nodes : Elsewhere → List ℕ → Option Defined → ℕ
body_nodes elsewhere path None = 0
body_nodes elsewhere path (Some d) = elsewhere path d.body

-- the number of an extension is no node
abbrev pub on_bits_nodes : BitFunction → List ℕ → ℕ
on_bits_nodes function [] = 0
on_bits_nodes function (n ∷ ns) = if is_extension function then total ns else n + total ns

abbrev pub primary_nodes : System → Elsewhere → List ℕ → Primary ℕ → List (Selection ℕ) → ℕ
primary_nodes system elsewhere path (Name x primed) selections = name_nodes system elsewhere (led system path x (dotted selections))
primary_nodes system elsewhere path (Apply f arguments) selections =
    total arguments + body_nodes elsewhere path (option_and_then (λ m. define_of m f) (module_at system path))
primary_nodes system elsewhere path (OnBits function arguments) selections = on_bits_nodes function arguments
primary_nodes system elsewhere path (Old x) selections = name_nodes system elsewhere (name_at path x.name)
primary_nodes system elsewhere path (Grouped e) selections = e
primary_nodes system elsewhere path other selections = 0

abbrev pub selection_nodes : Selection ℕ → ℕ
selection_nodes (Element place i) = i
selection_nodes (Update place i v) = i + v
selection_nodes other = 0

-- each form is a node, with those of its parts
abbrev pub nodes_form : System → Elsewhere → List ℕ → Expr-F ℕ → ℕ
nodes_form system elsewhere path (If place branches otherwise) = suc (total (map (λ b. b.condition + b.value) branches) + otherwise)
nodes_form system elsewhere path (Iff place parts marks) = suc (total parts)
nodes_form system elsewhere path (Implies place parts marks) = suc (total parts)
nodes_form system elsewhere path (Or place parts marks) = suc (total parts)
nodes_form system elsewhere path (And place parts marks) = suc (total parts)
nodes_form system elsewhere path (Compare place how mark a b) = suc (a + b)
nodes_form system elsewhere path (BitOr place parts marks) = suc (total parts)
nodes_form system elsewhere path (BitXor place parts marks) = suc (total parts)
nodes_form system elsewhere path (BitAnd place parts marks) = suc (total parts)
nodes_form system elsewhere path (Concat place parts marks) = suc (total parts)
nodes_form system elsewhere path (Sum place parts signs) = suc (total parts)
nodes_form system elsewhere path (Product place parts marks) = suc (total parts)
nodes_form system elsewhere path (Unary place operator e) = suc e
nodes_form system elsewhere path (Selected place primary selections) =
    suc (primary_nodes system elsewhere path primary selections + total (map selection_nodes selections))

unfoldable pub nodes_through : ℕ → System → Elsewhere
nodes_through zero system path e = 0
nodes_through (suc n) system path e = fold-Expr ℕ (nodes_form system (nodes_through n system) path) e

-- the nodes of an expression at a path; no chain of uses within the limit is longer
abbrev pub nodes : System → Elsewhere
nodes system = nodes_through (suc longest_chain) system

-- Statements with the expressions in them.

-- How many statements code has, and how many nodes the expressions in them.
pub record Size : Type 0 where
  pub statements : ℕ
  pub nodes : ℕ

abbrev pub size : ℕ → ℕ → Size
size statements nodes = record { statements = statements; nodes = nodes }

abbrev pub plus : Size → Size → Size
plus a b = size (a.statements + b.statements) (a.nodes + b.nodes)

unfoldable pub sum : List Size → Size
sum [] = size 0 0
sum (s ∷ ss) = plus s (sum ss)

abbrev pub times : ℕ → Size → Size
times n s = size (n * s.statements) (n * s.nodes)

-- one statement with these expressions
abbrev pub statement : System → List ℕ → List Expr → Size
statement system path es = size 1 (total (map (nodes system path) es))

-- How large the code of procedures and stepped instances is.
abbrev pub Blocks : Type 0
Blocks = List ℕ → List Stmt → Size

-- a call has the `requires` and the body of what it calls
abbrev pub callee : System → Blocks → List ℕ → Option ProcedureParts → Size
callee system blocks path None = size 0 0
callee system blocks path (Some p) = plus (size 0 (total (map (nodes system path) (requires_of p)))) (blocks path p.body)

abbrev pub stepped : Blocks → List ℕ → Option Module → Size
stepped blocks path None = size 0 0
stepped blocks path (Some m) = blocks path (next_of m)

abbrev pub arm_sizes : System → List ℕ → List (Arm Size) → Option (List Size) → Size
arm_sizes system path as' otherwise =
    plus (sum (map (λ a. plus (size 0 (nodes system path a.condition)) (sum a.body)) as')) (else_size otherwise)
  where
    else_size : Option (List Size) → Size
    else_size None = size 0 0
    else_size (Some block) = sum block

-- each statement counts one, with its expressions and what stands inside it; a loop has its body once for each turn
abbrev pub size_form : System → Blocks → List ℕ → Stmt-F Size → Size
size_form system blocks path (Declare place names type) = size 1 0
size_form system blocks path (Skip place) = size 1 0
size_form system blocks path (Block place block) = plus (size 1 0) (sum block)
size_form system blocks path (Assert place label e) = statement system path (e ∷ [])
size_form system blocks path (Assume place e) = statement system path (e ∷ [])
size_form system blocks path (Havoc place x primed) = size 1 0
size_form system blocks path (Assign place targets sources) = statement system path (target_indices targets ++ sources)
size_form system blocks path (Choice place as' otherwise) = plus (size 1 0) (arm_sizes system path as' otherwise)
size_form system blocks path (Cases place as' otherwise) = plus (size 1 0) (arm_sizes system path as' otherwise)
size_form system blocks path (For place x type from to block) = plus (size 1 0) (times (length (turns from to)) (sum block))
size_form system blocks path (Call place targets f arguments) =
    plus (statement system path (target_indices targets ++ arguments)) (callee system blocks path (option_and_then (λ m. procedure_of m f.name) (module_at system path)))
size_form system blocks path (Next place i) =
    plus (size 1 0) (stepped blocks (path ++ i.name ∷ []) (module_at system (path ++ i.name ∷ [])))

unfoldable pub size_by : System → Blocks → Blocks
size_by system blocks path code = sum (map (fold-Stmt Size (size_form system blocks path)) code)

unfoldable pub size_through : ℕ → System → Blocks
size_through zero system path code = size 0 0
size_through (suc n) system path code = size_by system (size_through n system) path code

-- the size of code at a path; no chain of instances and then of calls within the limits is longer
abbrev pub code_size : System → Blocks
code_size system = size_through (suc (longest_chain + longest_chain)) system

-- The whole expansion from main.

abbrev pub formula_in : Decl → List Expr
formula_in (Invariant place i e) = e ∷ []
formula_in (Hyperinvariant place n i e) = e ∷ []
formula_in (Hyperaxiom place n i e) = e ∷ []
formula_in other = []

-- an instance has its init code and its formulas
abbrev pub instance_size : System → InstanceAt → Size
instance_size system here =
    plus (code_size system here.path (init_of here.code)) (size 0 (total (map (nodes system here.path) (flat_map formula_in here.code.decls))))

abbrev pub first_path : ℕ → List InstanceAt → List ℕ
first_path name [] = []
first_path name (i ∷ is) = if nat_eq i.code.name name then i.path else first_path name is

-- the axioms of a module in use, once: where its first instance is
abbrev pub axiom_nodes : System → Module → ℕ
axiom_nodes system m = total (map (nodes system (first_path m.name (instances_in system))) (axioms_of m))

-- main's procedures, whether they are called or not
abbrev pub procedure_size : System → Decl → Size
procedure_size system (Procedure place p) =
    plus (size 0 (total (map (nodes system []) (flat_map clause_expressions p.clauses)))) (code_size system [] p.body)
procedure_size system other = size 0 0

-- the next block of main, the init code and the formulas of all instances, the axioms of the modules in use, and the procedures of main
unfoldable pub expansion : System → Size
expansion system =
    plus (code_size system [] (main_next system))
    (plus (sum (map (instance_size system) (instances_in system)))
    (plus (size 0 (total (map (axiom_nodes system) (modules_in_use system))))
    (sum (map (procedure_size system) (flat_map (λ m. m.decls) (as_list (main_module system)))))))

-- The limits.

-- a chain of instances from a module down has more than 32 modules
abbrev pub has_deep_chain : System → Module → Bool
has_deep_chain system m = has_way longest_chain (instance_steps system) m.name

abbrev pub has_deep_module : System → Bool
has_deep_module system = list_any (has_deep_chain system) system.modules

-- the root has too many instances, itself not counted
abbrev pub has_many_instances : System → Bool
has_many_instances system = nat_lt (suc most_instances) (length (instances_in system))

-- main is too large: its statements, expression nodes, cells or instances
abbrev pub is_too_large : System → Bool
is_too_large system =
    (nat_lt most_statements (expansion system).statements || nat_lt most_nodes (expansion system).nodes)
    || (nat_lt most_cells (length (cells_of system)) || has_many_instances system)

-- an enum with too many labels, at its word
abbrev pub label_faults : Module → List Fault
label_faults m = flat_map (λ e. breaks_where (nat_lt most_labels (length e.labels)) TooLarge e.place) (enums_of_module m)

abbrev pub turns_form : Stmt-F (List Fault) → List Fault
turns_form (Block place block) = all_of block
turns_form (Choice place as' otherwise) = flat_map (λ a. all_of a.body) as' ++ otherwise_of otherwise
turns_form (Cases place as' otherwise) = flat_map (λ a. all_of a.body) as' ++ otherwise_of otherwise
turns_form (For place x type from to block) = breaks_where (nat_lt most_turns (length (turns from to))) TooLarge place ++ all_of block
turns_form other = []

abbrev pub code_in : Decl → List Stmt
code_in (Init place block) = block
code_in (NextBlock place block) = block
code_in (Procedure place p) = p.body
code_in other = []

-- a loop with too many turns, at its word
abbrev pub turn_faults : Module → List Fault
turn_faults m = flat_map (λ d. flat_map (fold-Stmt (List Fault) turns_form) (code_in d)) m.decls
