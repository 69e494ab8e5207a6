-- How many forms an expression and a statement have.
use Rattle.std.specs.Prelude.{ℕ, ◌+◌, List, map}
use Rattle.uc_flat.specs.declared.expression.Expression.{Expression}
use Rattle.uc_flat.specs.declared.expression.Expression.TheOpen.{Expression-F}
use Rattle.uc_flat.specs.declared.expression.Expression.TheOpen.Expression-F.{Cell, Apply}
use Rattle.uc_flat.specs.declared.expression.Expression.TheFolds.{fold-Expression}
use Rattle.uc_flat.specs.declared.statement.Statement.{Statement}
use Rattle.uc_flat.specs.declared.statement.Statement.TheOpen.{Statement-F}
use Rattle.uc_flat.specs.declared.statement.Statement.TheOpen.Statement-F.{Assign, Havoc, Assume, Assert, If}
use Rattle.uc_flat.specs.declared.statement.Statement.TheFolds.{fold-Statement}
use Rattle.uc_flat.specs.Counts.{total}

abbrev pub cost_form : Expression-F ℕ → ℕ
cost_form (Cell k) = 1
cost_form (Apply op ns) = 1 + total ns

unfoldable pub cost : Expression → ℕ
cost = fold-Expression ℕ cost_form

abbrev pub costs : List Expression → ℕ
costs es = total (map cost es)

abbrev pub size_form : Statement-F ℕ → ℕ
size_form (Assign k e) = 1
size_form (Havoc k listed) = 1
size_form (Assume e) = 1
size_form (Assert site e) = 1
size_form (If e ns ms) = 2 + total ns + total ms

unfoldable pub size : Statement → ℕ
size = fold-Statement ℕ size_form

abbrev pub sizes : List Statement → ℕ
sizes code = total (map size code)
