-- Printed words spell what they were printed of.
use Rattle.std.specs.Prelude.{◌≡◌, ◌≤◌, ℕ, true, List}
use Rattle.uc_forms.specs.Spelling.{Spells}
use Rattle.uc_grammar.specs.declared.word.Word.{Word}
use Rattle.uc_grammar.specs.Syntax.{F, rule, ty, expr, statement, text}
use Rattle.uc_syntax.specs.declared.type_expression.TypeExpr.{TypeExpr}
use Rattle.uc_syntax.specs.declared.expression.Expr.{Expr}
use Rattle.uc_syntax.specs.declared.statement.Stmt.{Stmt}
use Rattle.uc_syntax.specs.declared.declaration.Module.{Module}
use Rattle.uc_print_laws.specs.Piece.{Shown}
use Rattle.uc_print_laws.specs.Printed.{Printed}
use Rattle.uc_print_laws.specs.Types.{printed_type, erased_type}
use Rattle.uc_print_laws.specs.Expressions.{printed_expr, erased_expr}
use Rattle.uc_print_laws.specs.Statements.{printed_stmt, erased_stmt}
use Rattle.uc_print_laws.specs.Declarations.{modules_words, erased_modules}

-- where the grammar has the tree, and levels enough: whatever words show what is printed, they spell in this form a value of which Q holds
pub record Prints {A : Type 0} (f : F A) (x : Printed) (Q : A → Type 0) : Type 0 where
  pub spells : x.is_shaped ≡ true → (m : ℕ) → x.depth ≤ m → (ws : List Word) → Shown x.words ws → (a : A) × Spells rule m f ws a × Q a

-- the words of a type spell this type, places aside
abbrev pub TypesAreSpelled : Type 0
TypesAreSpelled = (t : TypeExpr) → Prints ty (printed_type t) (λ u. erased_type u ≡ erased_type t)

-- and so for expressions
abbrev pub ExpressionsAreSpelled : Type 0
ExpressionsAreSpelled = (e : Expr) → Prints expr (printed_expr e) (λ u. erased_expr u ≡ erased_expr e)

-- and for statements
abbrev pub StatementsAreSpelled : Type 0
StatementsAreSpelled = (s : Stmt) → Prints statement (printed_stmt s) (λ u. erased_stmt u ≡ erased_stmt s)

-- and for the modules of a text, or of a whole design
abbrev pub ModulesAreSpelled : Type 0
ModulesAreSpelled = (ms : List Module) → Prints text (modules_words ms) (λ ns. erased_modules ns ≡ erased_modules ms)

-- So whatever list of modules the printed words of a shaped list spell, it is that list, places aside.
abbrev pub PrintedIsReadBack : Type 0
PrintedIsReadBack = (ms : List Module) (m : ℕ) (ws : List Word) (ns : List Module) → (modules_words ms).is_shaped ≡ true → (modules_words ms).depth ≤ m → Shown (modules_words ms).words ws → Spells rule m text ws ns → erased_modules ns ≡ erased_modules ms
