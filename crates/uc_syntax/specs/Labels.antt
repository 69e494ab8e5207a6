-- The labels of the enums that are written in each part of a design, enum by enum.
use Rattle.std.specs.Prelude.{ℕ, List, [], map, Option, None, Some}
use Rattle.std.specs.List.{flat_map}
use Rattle.uc_syntax.specs.declared.type_expression.TypeExpr.{TypeExpr}
use Rattle.uc_syntax.specs.declared.statement.Stmt.{Stmt}
use Rattle.uc_syntax.specs.declared.statement.Stmt.TheFolds.{fold-Stmt}
use Rattle.uc_syntax.specs.declared.declaration.Decl.{Decl}
use Rattle.uc_syntax.specs.declared.declaration.Module.{Module}
use Rattle.uc_syntax.specs.WrittenTypes.{types_in_form, types_in, enums_in}

unfoldable pub type_labels : TypeExpr → List (List ℕ)
type_labels type = map (λ e. e.labels) (enums_in type)

unfoldable pub stmt_labels : Stmt → List (List ℕ)
stmt_labels s = flat_map type_labels (fold-Stmt (List TypeExpr) types_in_form s)

-- those of the block of an `else`, and of a type that may be left out
abbrev pub else_labels : Option (List Stmt) → List (List ℕ)
else_labels None = []
else_labels (Some block) = flat_map stmt_labels block

abbrev pub optional_labels : Option TypeExpr → List (List ℕ)
optional_labels None = []
optional_labels (Some type) = type_labels type

unfoldable pub decl_labels : Decl → List (List ℕ)
decl_labels d = flat_map type_labels (types_in d)

unfoldable pub module_labels : Module → List (List ℕ)
module_labels m = flat_map decl_labels m.decls
