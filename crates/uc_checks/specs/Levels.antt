-- What a next block asks, and what is met where it is checked, with at most n instances inside each other.
use Rattle.std.specs.Prelude.{ℕ, List, [], map}
use Rattle.uc_syntax.specs.declared.statement.Stmt.{Stmt}
use Rattle.uc_values.specs.declared.ty.Ty.{Ty}
use Rattle.uc_values.specs.declared.value.Value.{Value}
use Rattle.uc_meaning.specs.Lookup.{System}
use Rattle.uc_meaning.specs.Steps.{Constraint, Kept, then_check, check_by, check_statement, check_through, check_turns, with_local}
use Rattle.uc_checks.specs.declared.seen.Seen.{Seen}
use Rattle.uc_meaning.specs.Checks.{TracedCheck, CheckMet, traced_check, check_met_by, check_met_through, check_turns_met}

abbrev pub check_at : ℕ → System → List Stmt → Constraint
check_at n system code = check_by system (check_through n system) code

abbrev pub check_met_at : ℕ → System → List Stmt → CheckMet
check_met_at n system code = check_met_by system (check_through n system) (check_met_through n system) code

-- one statement
abbrev pub asked_at : ℕ → System → Stmt → Constraint
asked_at n system s = check_statement system (check_through n system) s

abbrev pub traced_at : ℕ → System → Stmt → TracedCheck
traced_at n system s = traced_check system (check_through n system) (check_met_through n system) s

abbrev pub asked_met_at : ℕ → System → Stmt → CheckMet
asked_met_at n system s = (traced_at n system s).met

-- the turns of a loop, and one of them
abbrev pub turns_at : ℕ → System → ℕ → Ty → List Stmt → List Value → Constraint
turns_at n system x t block vs = check_turns x t (map (asked_at n system) block) vs

abbrev pub turns_met_at : ℕ → System → ℕ → Ty → List Stmt → List Value → CheckMet
turns_met_at n system x t block vs = check_turns_met x t (map (traced_at n system) block) vs

abbrev pub turn_at : ℕ → System → ℕ → Ty → List Stmt → Value → Constraint
turn_at n system x t block v w = then_check (check_at n system block (with_local x t v w)) (λ w'. Kept (record w' { scope = w.scope }))

-- nothing is seen yet
abbrev pub first_seen : Seen
first_seen = record { written = []; violated = []; used = 0 }
