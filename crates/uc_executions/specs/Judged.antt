-- Whether the formula that a line judges is false.
use Rattle.std.specs.Prelude.{ℕ, Bool, true, false, not, List, [], Option, Some, None}
use Rattle.uc_syntax.specs.declared.expression.Expr.{Expr}
use Rattle.uc_meaning.specs.declared.scope.Scope.{Scope}
use Rattle.uc_meaning.specs.declared.scope.Interp.{Interp}
use Rattle.uc_meaning.specs.Lookup.{System}
use Rattle.uc_meaning.specs.Expressions.{is_true}
use Rattle.uc_meaning.specs.Overflow.{met}
use Rattle.uc_meaning.specs.Steps.{scope_of}
use Rattle.uc_meaning.specs.Runs.{Position, position_at, states_at, copies_scope}
use Rattle.uc_executions.specs.declared.judged.Judged.{Judged}
use Rattle.uc_executions.specs.Asked.{Asked, ask_each}

abbrev pub judged_parts : Judged → Bool × Expr
judged_parts j = (j.is_hyper, j.formula.now)

-- whether a formula is false
abbrev pub falsity_asked : System → Scope → Expr → Asked
falsity_asked system s e = record { holds = not (is_true system s e); met = met system s e }

-- in each copy, up to the first in which it is true
abbrev pub falsity_in_copies : System → Interp → List ℕ → List (List Position) → ℕ → Expr → Asked
falsity_in_copies system i path copies k e = ask_each (λ run. falsity_asked system (scope_of i path (position_at k run).0) e) copies

abbrev pub falsity_at : System → Interp → List ℕ → List (List Position) → ℕ → Option (Bool × Expr) → Asked
falsity_at system i path copies k None = record { holds = false; met = [] }
falsity_at system i path copies k (Some (true, e)) = falsity_asked system (copies_scope i path (states_at k copies)) e
falsity_at system i path copies k (Some (false, e)) = falsity_in_copies system i path copies k e
