-- A block, and a turn of a loop: their locals end with them.
use Rattle.std.specs.Prelude.{ℕ, List, length}
use Rattle.uc_syntax.specs.declared.statement.Stmt.{Stmt}
use Rattle.uc_values.specs.declared.ty.Ty.{Ty}
use Rattle.uc_values.specs.declared.value.Value.{Value}
use Rattle.uc_meaning.specs.Lookup.{System}
use Rattle.uc_meaning.specs.Code.{Execution, Goes, then_run, in_scope, keep_locals, push_local}
use Rattle.uc_runs.specs.Levels.{run_at}

abbrev pub block_at : ℕ → System → List Stmt → Execution
block_at n system block r = then_run (run_at n system block r) (λ r'. Goes (in_scope r' (keep_locals (length r.scope.locals) r'.scope)))

abbrev pub turn_at : ℕ → System → ℕ → Ty → List Stmt → Value → Execution
turn_at n system x t block v r = then_run (run_at n system block (push_local x t v r)) (λ r'. Goes (in_scope r' (keep_locals (length r.scope.locals) r'.scope)))
