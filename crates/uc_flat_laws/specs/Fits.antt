-- Names over cells whose types are listed, and code that fits these types.
use Rattle.std.specs.Prelude.{◌≡◌, ℕ, ◌+◌, true, List, ◌++◌, length, Option, Some, None, slice_get, slice_set, All}
use Rattle.std.specs.List.{list_all}
use Rattle.uc_syntax.specs.declared.type_expression.TypeExpr.{TypeExpr}
use Rattle.uc_syntax.specs.declared.expression.Expr.{Expr}
use Rattle.uc_syntax.specs.declared.statement.Stmt.{Stmt}
use Rattle.uc_values.specs.declared.ty.Ty.{Ty}
use Rattle.uc_ops.specs.Typing.{AllValid}
use Rattle.uc_flat.specs.declared.statement.Statement.{Statement}
use Rattle.uc_flat.specs.Reading.{type_of}
use Rattle.uc_flat.specs.Flats.{wider_types}
use Rattle.uc_flat.specs.Fine.{IsTyped, AreFine, ReadsBelow, CodeReadsBelow, ReadsTyped}
use Rattle.uc_flat_expressions.specs.declared.typed.TypedExpression.{TypedExpression}
use Rattle.uc_flat_expressions.specs.declared.typed.Meant.{Meant}
use Rattle.uc_flat_expressions.specs.declared.typed.Meant.TheVariants.{Cell}
use Rattle.uc_flat_expressions.specs.Expressions.{flat_of}
use Rattle.uc_symstep.specs.Known.{CodeReadsTyped}
use Rattle.uc_flat_code.specs.declared.writing.Writing.{Writing}
use Rattle.uc_flat_code.specs.Code.{code_of}
use Rattle.uc_flat_code.specs.CellTypes.{Types, is_cell_type}
use Rattle.uc_flat_code.specs.Init.{init_code}
use Rattle.uc_flat_code.specs.declared.made.MadeCode.{MadeCode}

-- the cells that names stand for have their types
abbrev pub AreCellsOf : List Meant → List Ty → Type 0
AreCellsOf names types = (x k : ℕ) (new : Option ℕ) (ty : Ty) → slice_get names x ≡ Some (Cell k new ty) → slice_get types k ≡ Some ty

-- so have the cells that are written for them
abbrev pub AreWritten : List Meant → Writing → List Ty → Type 0
AreWritten names w types = (x k : ℕ) (new : Option ℕ) (ty : Ty) → slice_get names x ≡ Some (Cell k new ty) → slice_get types (k + w.shift) ≡ Some ty

-- what stands for an expression fits the cells, and has the type that it is said to have
abbrev pub ExpressionsFit : List Meant → List Ty → Type 0
ExpressionsFit names types = (e : Expr) (t : TypedExpression) → flat_of names e ≡ Some t → IsTyped types t.expression × (type_of types t.expression ≡ t.ty)

-- it reads only constants with numbers below n
abbrev pub ExpressionsReadBelow : List Meant → ℕ → Type 0
ExpressionsReadBelow names n = (e : Expr) (t : TypedExpression) → flat_of names e ≡ Some t → ReadsBelow n t.expression

-- it reads only constants of these types, at their types
abbrev pub ExpressionsReadTyped : List Meant → List Ty → Type 0
ExpressionsReadTyped names constants = (e : Expr) (t : TypedExpression) → flat_of names e ≡ Some t → ReadsTyped constants t.expression

-- Where expressions fit, so does code.
abbrev pub FitsLaw : Type 0
FitsLaw =
    (names : List Meant) (w : Writing) (types : List Ty) (code : List Stmt) (flat : List Statement) → ExpressionsFit names types → AreWritten names w types → AllValid types
    → code_of names w code ≡ Some flat → AreFine types flat

-- Code reads the constants that its expressions read.
abbrev pub ReadsLaw : Type 0
ReadsLaw =
    (names : List Meant) (w : Writing) (n : ℕ) (code : List Stmt) (flat : List Statement) → ExpressionsReadBelow names n → code_of names w code ≡ Some flat
    → CodeReadsBelow n flat

-- Where its expressions read the constants at their types, so does code.
abbrev pub TypedLaw : Type 0
TypedLaw =
    (names : List Meant) (w : Writing) (constants : List Ty) (code : List Stmt) (flat : List Statement) → ExpressionsReadTyped names constants → code_of names w code ≡ Some flat
    → CodeReadsTyped constants flat

-- A next block writes cells of the new state, which stand behind all cells of the old one.
abbrev pub StepLaw : Type 0
StepLaw = (names : List Meant) (types : List Ty) → AreCellsOf names types → AreWritten names (record { primed = true; shift = length types }) (types ++ types)

-- ---- init code

-- only types that cells may have are read
abbrev pub ReadsCellTypes : Types → Type 0
ReadsCellTypes reads = (e : TypeExpr) (ty : Ty) → reads e ≡ Some ty → is_cell_type ty ≡ true

-- What names may stand for where there are locals, whose cells have numbers from n to below k: the name of a local stands for its cell, which has its type.
pub data HasLocals (names : List Meant) (types : List Ty) (n : ℕ) : List Meant → ℕ → Type 0 where
  without : HasLocals names types n names n
  passed : (others : List Meant) (k : ℕ) → HasLocals names types n others k → HasLocals names types n others (k + 1)
  with_local : (others : List Meant) (k x : ℕ) (ty : Ty) → HasLocals names types n others k → slice_get types k ≡ Some ty → is_cell_type ty ≡ true
      → HasLocals names types n (slice_set others x (Cell k None ty)) (k + 1)

-- Init code fits the cells and those behind them, where its expressions do, whatever locals there are; and what these begin with fits the cells.
abbrev pub InitLaw : Type 0
InitLaw =
    (reads : Types) (names : List Meant) (types : List Ty) (code : List Stmt) (made : MadeCode)
    → ReadsCellTypes reads → AreCellsOf names types → list_all is_cell_type types ≡ true
    → ((others : List Meant) (k : ℕ) → HasLocals names (wider_types types made.further) (length types) others k → ExpressionsFit others (wider_types types made.further))
    → init_code reads names (length types) code ≡ Some made → AreFine (wider_types types made.further) made.code × All (IsTyped types) made.further

-- It reads constants at their types where its expressions do, and so does what the cells behind begin with.
abbrev pub InitTypedLaw : Type 0
InitTypedLaw =
    (reads : Types) (names : List Meant) (types : List Ty) (constants : List Ty) (code : List Stmt) (made : MadeCode)
    → ReadsCellTypes reads → AreCellsOf names types → list_all is_cell_type types ≡ true
    → ((others : List Meant) (k : ℕ) → HasLocals names (wider_types types made.further) (length types) others k → ExpressionsReadTyped others constants)
    → init_code reads names (length types) code ≡ Some made → CodeReadsTyped constants made.code × All (ReadsTyped constants) made.further
