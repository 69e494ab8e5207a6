-- Code of a next block that writes no part of a cell on a way after it was written there, or read in the new state.
use Rattle.std.specs.Prelude.{ℕ, ◌-◌, Bool, false, ◌&&◌, ◌||◌, nat_eq, nat_lt, if◌then◌else◌, List, [], ◌∷◌, ◌++◌, map, Option, Some, None, slice_get}
use Rattle.std.specs.Option.{option_map, option_and_then, is_some}
use Rattle.std.specs.List.{flat_map}
use Rattle.uc_syntax.specs.declared.expression.Expr.{Expr}
use Rattle.uc_syntax.specs.declared.statement.Target.{Target}
use Rattle.uc_syntax.specs.declared.statement.Arm.{Arm}
use Rattle.uc_syntax.specs.declared.statement.Stmt.{Stmt}
use Rattle.uc_syntax.specs.declared.statement.Stmt.TheOpen.{Stmt-F}
use Rattle.uc_syntax.specs.declared.statement.Stmt.TheOpen.Stmt-F.{Block, Assume, Havoc, Assign, If, Case}
use Rattle.uc_syntax.specs.declared.statement.Stmt.TheFolds.{fold-Stmt}
use Rattle.uc_meaning.specs.Code.{else_block}
use Rattle.uc_meaning.specs.Steps.{fields_before, is_prefix}
use Rattle.uc_flat.specs.declared.expression.Expression.{Expression}
use Rattle.uc_flat.specs.declared.expression.Expression.TheOpen.{Expression-F}
use Rattle.uc_flat.specs.declared.expression.Expression.TheOpen.Expression-F.{Cell as CellForm, Apply as ApplyForm}
use Rattle.uc_flat.specs.declared.expression.Expression.TheFolds.{fold-Expression}
use Rattle.uc_flat.specs.declared.statement.Statement.{Statement}
use Rattle.uc_flat_expressions.specs.declared.typed.TypedExpression.{TypedExpression}
use Rattle.uc_flat_expressions.specs.declared.typed.Meant.{Meant}
use Rattle.uc_flat_expressions.specs.declared.typed.Meant.TheVariants.{Cell}
use Rattle.uc_flat_expressions.specs.Expressions.{flat_of}
use Rattle.uc_flat_code.specs.declared.writing.Writing.{Writing}
use Rattle.uc_flat_code.specs.Code.{code_of}
use Rattle.uc_flat_code.specs.declared.once.Part.{Part}

-- one part lies in the other
abbrev pub overlaps : Part → Part → Bool
overlaps a b = nat_eq a.cell b.cell && (is_prefix a.fields b.fields || is_prefix b.fields a.fields)

-- a part overlaps one of the list
unfoldable pub touched : List Part → Part → Bool
touched [] p = false
touched (x ∷ xs) p = overlaps x p || touched xs p

-- ---- what is read of the new state

-- the cell of a number, where the numbers from n on are those of the cells of the new state
abbrev pub new_cell : ℕ → ℕ → List Part
new_cell n k = if nat_lt k n then [] else record { cell = k - n; fields = [] } ∷ []

abbrev pub new_form : ℕ → Expression-F (List Part) → List Part
new_form n (CellForm k) = new_cell n k
new_form n (ApplyForm op parts) = flat_map (λ ps. ps) parts

-- the cells of the new state that an expression over cells reads
unfoldable pub new_cells : ℕ → Expression → List Part
new_cells n = fold-Expression (List Part) (new_form n)

abbrev pub new_cells_in : ℕ → Option TypedExpression → List Part
new_cells_in n None = []
new_cells_in n (Some t) = new_cells n t.expression

-- the cells that an expression of the design reads in the new state
abbrev pub read_by : List Meant → ℕ → Expr → List Part
read_by names n e = new_cells_in n (flat_of names e)

-- ---- what is written

-- From the parts that were written or read before, those that are written or read next: none where one that is written overlaps one from before.
abbrev pub Writer : Type 0
Writer = List Part → Option (List Part)

abbrev pub writes_part : Part → Writer
writes_part p before = if touched before p then None else Some (p ∷ [])

unfoldable pub each_writes : List Writer → Writer
each_writes [] before = Some []
each_writes (w ∷ ws) before = option_and_then (λ xs. option_map (λ ys. xs ++ ys) (each_writes ws (before ++ xs))) (w before)

-- the parts of either
abbrev pub either_writes : Option (List Part) → Option (List Part) → Option (List Part)
either_writes first second = option_and_then (λ xs. option_map (λ ys. xs ++ ys) second) first

-- The arms of a conditional, and what is run where no condition is true, begin with the same parts.
unfoldable pub arms_write : List (Arm Writer) → List Writer → Writer
arms_write [] otherwise before = each_writes otherwise before
arms_write (a ∷ arms) otherwise before = either_writes (each_writes a.body before) (arms_write arms otherwise before)

-- these parts are read first
abbrev pub reads_first : List Part → Writer → Writer
reads_first reads w before = option_map (λ xs. reads ++ xs) (w (before ++ reads))

-- a part of the cell that a name stands for
abbrev pub writer_of : Option Meant → List ℕ → Writer
writer_of (Some (Cell old new ty)) fields before = writes_part (record { cell = old; fields = fields }) before
writer_of other fields before = Some []

abbrev pub target_writer : List Meant → Target → Writer
target_writer names t = writer_of (slice_get names t.name) (fields_before t.parts)

-- what the conditions of arms read
abbrev pub conditions_read : {A : Type 0} → List Meant → ℕ → List (Arm A) → List Part
conditions_read names n arms = flat_map (λ a. read_by names n a.condition) arms

abbrev pub choice_writer : List Meant → ℕ → List (Arm Writer) → Option (List Writer) → Writer
choice_writer names n arms otherwise = reads_first (conditions_read names n arms) (arms_write arms (else_block otherwise))

-- A statement by what the statements inside it write. All conditions of a conditional are read before its arms, all sources of an assignment before its targets.
abbrev pub writer_form : List Meant → ℕ → Stmt-F Writer → Writer
writer_form names n (Block place block) before = each_writes block before
writer_form names n (Assume place e) before = Some (read_by names n e)
writer_form names n (Havoc place x primed) before = writer_of (slice_get names x.name) [] before
writer_form names n (Assign place targets sources) before = reads_first (flat_map (read_by names n) sources) (each_writes (map (target_writer names) targets)) before
writer_form names n (If place arms otherwise) before = choice_writer names n arms otherwise before
writer_form names n (Case place arms otherwise) before = choice_writer names n arms otherwise before
writer_form names n other before = Some []

unfoldable pub writer : List Meant → ℕ → Stmt → Writer
writer names n = fold-Stmt Writer (writer_form names n)

-- The parts that code writes, and the cells of the new state that it reads, where no way through it writes a part that overlaps one that it wrote or read before.
unfoldable pub written_by : List Meant → ℕ → List Stmt → Writer
written_by names n code = each_writes (map (writer names n) code)

-- The code over cells of a next block that writes no part of a cell on a way after it was written there, or read in the new state.
abbrev pub code_once : List Meant → Writing → List Stmt → Option (List Statement)
code_once names w code = if is_some (written_by names w.shift code []) then code_of names w code else None
