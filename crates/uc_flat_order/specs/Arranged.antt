-- The order in which the statements of a next block are run.
use Rattle.std.specs.Prelude.{ℕ, Bool, ◌⊎◌, if◌then◌else◌, List, [], ◌∷◌, Option}
use Rattle.std.specs.Option.{is_some}
use Rattle.uc_syntax.specs.declared.statement.Stmt.{Stmt}
use Rattle.uc_flat.specs.declared.statement.Statement.{Statement}
use Rattle.uc_flat_expressions.specs.declared.typed.Meant.{Meant}
use Rattle.uc_flat_code.specs.declared.writing.Writing.{Writing}
use Rattle.uc_graph.specs.Arranged.{arranged, IsReordered}
use Rattle.uc_flat_order.specs.Slices.{all_slices}
use Rattle.uc_flat_code.specs.Once.{written_by, code_once}

-- a statement may be run before another
abbrev pub may_go : List Meant → ℕ → Stmt → Stmt → Bool
may_go names n s t = is_some (written_by names n (s ∷ t ∷ []) [])

-- statements in turn: each time the first that may be run before all that are left
abbrev pub in_turn : List Meant → ℕ → List Stmt → List Stmt
in_turn names n code = arranged (may_go names n) code

-- code writes no part of a cell on a way after it was written there, or read in the new state
abbrev pub is_once : List Meant → ℕ → List Stmt → Bool
is_once names n code = is_some (written_by names n code [])

-- A block as it is run: its statements in turn, or its slices where those in turn write a part again.
abbrev pub block_arranged : List Meant → ℕ → List Stmt → List Stmt
block_arranged names n code = if is_once names n (in_turn names n code) then in_turn names n code else in_turn names n (all_slices code)

-- the statements of a block, or its slices, in some order
abbrev pub IsTakenFrom : List Stmt → List Stmt → Type 0
IsTakenFrom order code = IsReordered order code ⊎ IsReordered order (all_slices code)

-- The code over cells of a next block that, arranged, writes no part of a cell on a way after it was written there, or read in the new state.
abbrev pub code_arranged : List Meant → Writing → List Stmt → Option (List Statement)
code_arranged names w code = code_once names w (block_arranged names w.shift code)
