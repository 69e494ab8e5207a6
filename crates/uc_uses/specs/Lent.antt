-- Expressions that are lent, by what they are, and what arms have.
use Rattle.std.specs.Prelude.{ℕ, List, ◌∷◌, map}
use Rattle.std.specs.List.{flat_map}
use Rattle.std.specs.Borrow.{Bor}
use Rattle.uc_syntax.specs.declared.expression.Expr.{Expr}
use Rattle.uc_syntax.specs.declared.statement.Arm.{Arm}
use Rattle.uc_syntax.specs.declared.statement.Stmt.{Stmt}
use Rattle.uc_order_rules.specs.Mentions.{calls_in, expressions_in}

-- what is behind each reference
unfoldable pub lent : List (Bor Expr) → List Expr
lent es = map (λ e. e.now) es

abbrev pub expressions_in_arm : Arm Stmt → List Expr
expressions_in_arm a = a.condition ∷ flat_map expressions_in a.body

abbrev pub calls_in_arm : Arm Stmt → List ℕ
calls_in_arm a = flat_map calls_in a.body
