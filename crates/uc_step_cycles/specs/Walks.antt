-- What a walk over code adds.
use Rattle.std.specs.Prelude.{◌≡◌, ◌≤◌, ℕ, List, [], ◌∷◌, ◌++◌, length}
use Rattle.std.specs.Borrow.{Bor}
use Rattle.std.specs.List.{flat_map}
use Rattle.std.specs.Option.{option_and_then}
use Rattle.uc_syntax.specs.declared.declaration.Procedure.{Procedure as ProcedureParts}
use Rattle.uc_syntax.specs.declared.statement.Arm.{Arm}
use Rattle.uc_syntax.specs.declared.statement.Stmt.{Stmt}
use Rattle.uc_syntax.specs.declared.statement.Stmt.TheFolds.{fold-Stmt}
use Rattle.uc_meaning.specs.Lookup.{module_at, procedure_of}
use Rattle.uc_names.specs.declared.firsts.Firsts.{Firsts}
use Rattle.uc_order_rules.specs.Reads.{cells_primed}
use Rattle.uc_order_rules.specs.Writes.{modified_names}
use Rattle.uc_order_rules.specs.Dependence.{Piece, writing_form}
use Rattle.uc_step_cycles.specs.declared.acts.Acts.{Acts}
use Rattle.uc_step_cycles.specs.Procedures.{modified_by}
use Rattle.uc_step_cycles.specs.Acts.{IsNested, Setting, around_of, writings_of}

unfoldable pub statement_piece : Setting → Stmt → Piece
statement_piece s = fold-Stmt Piece (writing_form s.system s.blocks s.path)

unfoldable pub code_piece : Setting → List Stmt → Piece
code_piece s code around = flat_map (λ st. statement_piece s st around) code

-- what the conditions of arms read primed, behind what is around them
unfoldable pub arms_around : Setting → List (Arm Stmt) → List ℕ → List ℕ
arms_around s [] around = around
arms_around s (a ∷ as') around = arms_around s as' (around ++ cells_primed s.system s.path a.condition)

unfoldable pub arms_piece : Setting → List (Arm Stmt) → Piece
arms_piece s [] around = []
arms_piece s (a ∷ as') around =
    code_piece s a.body (around ++ cells_primed s.system s.path a.condition) ++ arms_piece s as' (around ++ cells_primed s.system s.path a.condition)

-- the procedures of a table are those of the module at the path
unfoldable pub IsKnown : Firsts (Bor ProcedureParts) → Setting → Type 0
IsKnown t s = (f : ℕ) → modified_by t f ≡ modified_names (option_and_then (λ m. procedure_of m f) (module_at s.system s.path))

-- What code does inside the conditions of a number was added, and all that was known is so still.
pub record Added (t : Firsts (Bor ProcedureParts)) (old new : Acts) (n : ℕ) (piece : Setting → Piece) : Type 0 where
  pub nested : IsNested new
  pub more : length old.contexts ≤ length new.contexts
  pub kept : (s : Setting) (k : ℕ) → k ≤ length old.contexts → around_of s new.contexts k ≡ around_of s old.contexts k
  pub writings : (s : Setting) → IsKnown t s → writings_of s new ≡ writings_of s old ++ piece s (around_of s old.contexts n)

unfoldable pub Adds : Firsts (Bor ProcedureParts) → Acts → Acts → ℕ → (Setting → Piece) → Type 0
Adds t old new n piece = IsNested old → n ≤ length old.contexts → Added t old new n piece

-- The same of arms, of which the last stands in the conditions of another number.
pub record AddedArms (t : Firsts (Bor ProcedureParts)) (old new : Acts) (n last : ℕ) (as' : List (Arm Stmt)) : Type 0 where
  pub added : Added t old new n (λ s. arms_piece s as')
  pub within : last ≤ length new.contexts
  pub last_is : (s : Setting) → around_of s new.contexts last ≡ arms_around s as' (around_of s old.contexts n)

unfoldable pub AddsArms : Firsts (Bor ProcedureParts) → Acts → Acts → ℕ → ℕ → List (Arm Stmt) → Type 0
AddsArms t old new n last as' = IsNested old → n ≤ length old.contexts → AddedArms t old new n last as'
