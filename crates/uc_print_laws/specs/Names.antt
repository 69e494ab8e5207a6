-- How many names a module declares: its own, and those of parameters, fields, labels and local variables, and loop variables.
use Rattle.std.specs.Prelude.{◌≤◌, ℕ, ◌+◌, List, [], ◌∷◌, length, Option, Some, None}
use Rattle.uc_syntax.specs.declared.type_expression.Parameter.{Parameter}
use Rattle.uc_syntax.specs.declared.type_expression.TypeExpr.{TypeExpr}
use Rattle.uc_syntax.specs.declared.type_expression.TypeExpr.TheOpen.{TypeExpr-F}
use Rattle.uc_syntax.specs.declared.type_expression.TypeExpr.TheOpen.TypeExpr-F.{Boolean, Integer, Bits, Enumeration, Record, Array, Named, OfModule}
use Rattle.uc_syntax.specs.declared.type_expression.TypeExpr.TheFolds.{fold-TypeExpr}
use Rattle.uc_syntax.specs.declared.statement.Arm.{Arm}
use Rattle.uc_syntax.specs.declared.statement.Stmt.{Stmt}
use Rattle.uc_syntax.specs.declared.statement.Stmt.TheOpen.{Stmt-F}
use Rattle.uc_syntax.specs.declared.statement.Stmt.TheOpen.Stmt-F.{Local, Skip, Block, Assert, Assume, Havoc, Assign, If, Case, For, Call, Next}
use Rattle.uc_syntax.specs.declared.statement.Stmt.TheFolds.{fold-Stmt}
use Rattle.uc_syntax.specs.declared.declaration.Procedure as procedures
use Rattle.uc_syntax.specs.declared.declaration.Decl.{Decl}
use Rattle.uc_syntax.specs.declared.declaration.Decl.TheVariants.{OpaqueType, TypeAlias, TypeImport, Variables, Function, Define, Procedure, Instance, Init, Next, Invariant, Axiom, Hyperinvariant, Hyperaxiom, Control}
use Rattle.uc_syntax.specs.declared.declaration.Module.{Module}

-- the sum over a list
abbrev pub total : {A : Type 0} → (A → ℕ) → List A → ℕ
total f [] = 0
total f (x ∷ xs) = f x + total f xs

abbrev pub in_option : {A : Type 0} → (A → ℕ) → Option A → ℕ
in_option f None = 0
in_option f (Some x) = f x

-- ---- types

abbrev pub field_count : Parameter ℕ → ℕ
field_count p = 1 + p.ty

abbrev pub type_count : TypeExpr-F ℕ → ℕ
type_count (Boolean p) = 0
type_count (Integer p) = 0
type_count (Bits p width) = 0
type_count (Enumeration p labels) = length labels
type_count (Record p fields) = total field_count fields
type_count (Array p index element) = index + element
type_count (Named p n) = 0
type_count (OfModule p m i) = 0

abbrev pub type_names : TypeExpr → ℕ
type_names = fold-TypeExpr ℕ type_count

-- a name with its type
abbrev pub parameter_names : Parameter TypeExpr → ℕ
parameter_names p = 1 + type_names p.ty

-- ---- statements

abbrev pub sum : List ℕ → ℕ
sum ns = total (λ n. n) ns

abbrev pub arm_count : Arm ℕ → ℕ
arm_count a = sum a.body

abbrev pub stmt_count : Stmt-F ℕ → ℕ
stmt_count (Local p is t) = length is + type_names t
stmt_count (Skip p) = 0
stmt_count (Block p ns) = sum ns
stmt_count (Assert p label e) = 0
stmt_count (Assume p e) = 0
stmt_count (Havoc p i primed) = 0
stmt_count (Assign p ts es) = 0
stmt_count (If p arms o) = total arm_count arms + in_option sum o
stmt_count (Case p arms o) = total arm_count arms + in_option sum o
stmt_count (For p i t from to ns) = (1 + in_option type_names t) + sum ns
stmt_count (Call p ts i es) = 0
stmt_count (Next p i) = 0

abbrev pub stmt_names : Stmt → ℕ
stmt_names = fold-Stmt ℕ stmt_count

abbrev pub code_names : List Stmt → ℕ
code_names ss = total stmt_names ss

-- ---- declarations

abbrev pub procedure_names : procedures.Procedure → ℕ
procedure_names q = 1 + (total parameter_names q.parameters + (total parameter_names q.results + code_names q.body))

abbrev pub decl_names : Decl → ℕ
decl_names (OpaqueType p i) = 1
decl_names (TypeAlias p i t) = 1 + type_names t
decl_names (TypeImport p i) = 0
decl_names (Variables p k is t) = length is + type_names t
decl_names (Function p i ps t) = 1 + (total parameter_names ps + type_names t)
decl_names (Define p i ps t e) = 1 + (total parameter_names ps + type_names t)
decl_names (Procedure p q) = procedure_names q
decl_names (Instance p i m bs) = 1
decl_names (Init p ss) = code_names ss
decl_names (Next p ss) = code_names ss
decl_names (Invariant p i e) = 1
decl_names (Axiom p label e) = in_option (λ i. 1) label
decl_names (Hyperinvariant p n i e) = 1
decl_names (Hyperaxiom p n i e) = 1
decl_names (Control p cs) = 0

abbrev pub module_names : Module → ℕ
module_names m = total decl_names m.decls

-- no module declares more names than this
abbrev pub HaveFewNames : ℕ → List Module → Type 0
HaveFewNames limit [] = Unit {0}
HaveFewNames limit (m ∷ ms) = (module_names m ≤ limit) × HaveFewNames limit ms
