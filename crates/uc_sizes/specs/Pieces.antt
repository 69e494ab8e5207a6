-- Code as a list of pieces, and how large it is.
use Rattle.std.specs.Prelude.{◌≡◌, ℕ, ◌+◌, ◌*◌, min, Bool, if◌then◌else◌, List, [], ◌∷◌, ◌++◌, map}
use Rattle.std.specs.Option.{option_and_then}
use Rattle.uc_syntax.specs.declared.expression.Expr.{Expr}
use Rattle.uc_syntax.specs.declared.statement.Arm.{Arm}
use Rattle.uc_syntax.specs.declared.statement.Stmt.{Stmt}
use Rattle.uc_syntax.specs.declared.statement.Stmt.TheFolds.{fold-Stmt}
use Rattle.uc_meaning.specs.Lookup.{System, module_at, procedure_of}
use Rattle.uc_order_rules.specs.Sizes.{Blocks, Size, callee, nodes, size, size_by, size_form, stepped, total}
use Rattle.uc_sizes.specs.declared.pieces.Piece.{Piece}
use Rattle.uc_sizes.specs.declared.pieces.Piece.TheVariants.{Statement, Expression, Call, Step}
use Rattle.uc_sizes.specs.declared.pieces.Repeated.{Repeated}

-- numbers from this one on are not told apart: it is above every limit
abbrev pub most : ℕ
most = 4294967296

abbrev pub cut : ℕ → ℕ
cut n = min n most

-- Where code is counted: the path in a design, how large the code elsewhere is, and whether nodes are counted or statements.
pub record Setting : Type 0 where
  pub system : System
  pub blocks : Blocks
  pub path : List ℕ
  pub of_nodes : Bool

-- what is counted of a size
abbrev pub amount : Setting → Size → ℕ
amount c s = if c.of_nodes then s.nodes else s.statements

-- how large a piece is
abbrev pub piece_size : Setting → Piece → Size
piece_size c Statement = size 1 0
piece_size c (Expression e) = size 0 (nodes c.system c.path e.now)
piece_size c (Call f) = callee c.system c.blocks c.path (option_and_then (λ m. procedure_of m f) (module_at c.system c.path))
piece_size c (Step i) = stepped c.blocks (c.path ++ i ∷ []) (module_at c.system (c.path ++ i ∷ []))

abbrev pub piece_amount : Setting → Piece → ℕ
piece_amount c p = amount c (piece_size c p)

unfoldable pub statement_size : Setting → Stmt → Size
statement_size c s = fold-Stmt Size (size_form c.system c.blocks c.path) s

abbrev pub statement_amount : Setting → Stmt → ℕ
statement_amount c s = amount c (statement_size c s)

abbrev pub code_amount : Setting → List Stmt → ℕ
code_amount c code = total (map (statement_amount c) code)

abbrev pub expression_amount : Setting → Expr → ℕ
expression_amount c e = amount c (size 0 (nodes c.system c.path e))

abbrev pub expressions_amount : List Expr → Setting → ℕ
expressions_amount es c = total (map (expression_amount c) es)

abbrev pub arm_amount : Setting → Arm Stmt → ℕ
arm_amount c a = expression_amount c a.condition + code_amount c a.body

abbrev pub arms_amount : List (Arm Stmt) → Setting → ℕ
arms_amount as' c = total (map (arm_amount c) as')

-- how much pieces are in all
abbrev pub repeated_amount : Setting → Repeated → ℕ
repeated_amount c r = r.times * piece_amount c r.piece

abbrev pub weight : Setting → List Repeated → ℕ
weight c ps = total (map (repeated_amount c) ps)

-- pieces were added for something that is run through so many times, wherever it is counted
unfoldable pub Adds : List Repeated → List Repeated → ℕ → (Setting → ℕ) → Type 0
Adds old new times f = (c : Setting) → cut (weight c new) ≡ cut (weight c old + times * f c)

-- Pieces are those of code: they are as large, but for numbers that are not told apart.
pub record AreOf (ps : List Repeated) (code : List Stmt) : Type 0 where
  pub same : (c : Setting) → cut (weight c ps) ≡ cut (amount c (size_by c.system c.blocks c.path code))
