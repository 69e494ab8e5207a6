-- Types and enums that are lent, by what they are.
use Rattle.std.specs.Prelude.{List, map}
use Rattle.std.specs.List.{flat_map}
use Rattle.std.specs.Borrow.{Bor}
use Rattle.uc_syntax.specs.declared.type_expression.TypeExpr.{TypeExpr}
use Rattle.uc_syntax.specs.declared.statement.Stmt.{Stmt}
use Rattle.uc_syntax.specs.declared.statement.Stmt.TheFolds.{fold-Stmt}
use Rattle.uc_syntax.specs.declared.statement.Arm.{Arm}
use Rattle.uc_syntax.specs.WrittenTypes.{Written, types_in_form, enums_in}
use Rattle.uc_type_names.specs.declared.enums.WrittenEnum.{WrittenEnum}

-- what is behind each reference
unfoldable pub lent : List (Bor TypeExpr) → List TypeExpr
lent ts = map (λ t. t.now) ts

-- the types that a statement writes
unfoldable pub types_by : Stmt → List TypeExpr
types_by = fold-Stmt (List TypeExpr) types_in_form

abbrev pub types_in_arm : Arm Stmt → List TypeExpr
types_in_arm a = flat_map types_by a.body

abbrev pub enum_meant : WrittenEnum → Written
enum_meant e = record { place = e.place; labels = map (λ l. l.name) e.labels.now }

-- enums as they are written
unfoldable pub meant : List WrittenEnum → List Written
meant es = map enum_meant es

abbrev pub enums_in_types : List (Bor TypeExpr) → List Written
enums_in_types ts = flat_map (λ t. enums_in t.now) ts
