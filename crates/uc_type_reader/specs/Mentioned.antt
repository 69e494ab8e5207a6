-- What is gathered of the types that a part of a design writes: their enums, and the modules that they name.
use Rattle.std.specs.Prelude.{◌≡◌, ℕ, List, [], ◌∷◌, ◌++◌, map, Option, Some, None}
use Rattle.std.specs.List.{flat_map}
use Rattle.uc_syntax.specs.declared.type_expression.TypeExpr.{TypeExpr}
use Rattle.uc_syntax.specs.declared.type_expression.TypeExpr.TheFolds.{fold-TypeExpr}
use Rattle.uc_syntax.specs.declared.statement.Arm.{Arm}
use Rattle.uc_syntax.specs.declared.statement.Stmt.{Stmt}
use Rattle.uc_syntax.specs.declared.statement.Stmt.TheFolds.{fold-Stmt}
use Rattle.uc_syntax.specs.declared.declaration.Module.{Module}
use Rattle.uc_syntax.specs.WrittenTypes.{Written, types_in_form, types_of_module, enums_in}
use Rattle.uc_meaning.specs.Types.{modules_form}
use Rattle.uc_type_reader.specs.declared.mentioned.WrittenEnum.{WrittenEnum}
use Rattle.uc_type_reader.specs.declared.mentioned.Mentioned.{Mentioned}

abbrev pub enum_written : Written → WrittenEnum
enum_written w = record { place = w.place; labels = w.labels }

-- the enums in a type, and the modules that it names
abbrev pub enums_at : TypeExpr → List WrittenEnum
enums_at t = map enum_written (enums_in t)

unfoldable pub modules_at : TypeExpr → List ℕ
modules_at = fold-TypeExpr (List ℕ) modules_form

-- what some types mention stands behind what was gathered before
pub record Gains (before now : Mentioned) (types : List TypeExpr) : Type 0 where
  pub enums : now.enums ≡ before.enums ++ flat_map enums_at types
  pub modules : now.modules ≡ before.modules ++ flat_map modules_at types

-- the types that a statement writes
unfoldable pub types_written : Stmt → List TypeExpr
types_written = fold-Stmt (List TypeExpr) types_in_form

abbrev pub types_in_arm : Arm Stmt → List TypeExpr
types_in_arm a = flat_map types_written a.body

abbrev pub types_in_else : Option (List Stmt) → List TypeExpr
types_in_else None = []
types_in_else (Some block) = flat_map types_written block

-- all that a module mentions, and nothing else
abbrev pub nothing_mentioned : Mentioned
nothing_mentioned = record { enums = []; modules = [] }

abbrev pub IsMentioned : Module → Mentioned → Type 0
IsMentioned m found = Gains nothing_mentioned found (types_of_module m)
