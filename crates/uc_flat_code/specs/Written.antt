-- The parts that statements write, whatever they read.
use Rattle.std.specs.Prelude.{ℕ, List, [], ◌∷◌, ◌++◌, Option, Some, slice_get}
use Rattle.std.specs.List.{flat_map}
use Rattle.uc_syntax.specs.declared.statement.Target.{Target}
use Rattle.uc_syntax.specs.declared.statement.Arm.{Arm}
use Rattle.uc_syntax.specs.declared.statement.Stmt.{Stmt}
use Rattle.uc_syntax.specs.declared.statement.Stmt.TheOpen.{Stmt-F}
use Rattle.uc_syntax.specs.declared.statement.Stmt.TheOpen.Stmt-F.{Block, Havoc, Assign, If, Case}
use Rattle.uc_syntax.specs.declared.statement.Stmt.TheFolds.{fold-Stmt}
use Rattle.uc_meaning.specs.Code.{else_block}
use Rattle.uc_meaning.specs.Steps.{fields_before}
use Rattle.uc_flat_expressions.specs.declared.typed.Meant.{Meant}
use Rattle.uc_flat_expressions.specs.declared.typed.Meant.TheVariants.{Cell}
use Rattle.uc_flat_code.specs.declared.once.Part.{Part}

-- a part of the cell that a name stands for
abbrev pub parts_of : Option Meant → List ℕ → List Part
parts_of (Some (Cell old new ty)) fields = record { cell = old; fields = fields } ∷ []
parts_of other fields = []

abbrev pub target_parts : List Meant → Target → List Part
target_parts names t = parts_of (slice_get names t.name) (fields_before t.parts)

-- what the statements of an arm write
abbrev pub arm_parts : {A : Type 0} → (A → List Part) → Arm A → List Part
arm_parts f a = flat_map f a.body

abbrev pub same_parts : List Part → List Part
same_parts ps = ps

-- a statement by what the statements inside it write
abbrev pub written_form : List Meant → Stmt-F (List Part) → List Part
written_form names (Block place block) = flat_map same_parts block
written_form names (Havoc place x primed) = parts_of (slice_get names x.name) []
written_form names (Assign place targets sources) = flat_map (target_parts names) targets
written_form names (If place arms otherwise) = flat_map (arm_parts same_parts) arms ++ flat_map same_parts (else_block otherwise)
written_form names (Case place arms otherwise) = flat_map (arm_parts same_parts) arms ++ flat_map same_parts (else_block otherwise)
written_form names other = []

-- the parts that a statement writes on any way
unfoldable pub written_parts : List Meant → Stmt → List Part
written_parts names = fold-Stmt (List Part) (written_form names)
