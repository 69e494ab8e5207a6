-- Code, and what is met where it runs, with at most n calls inside each other.
use Rattle.std.specs.Prelude.{ℕ, List, map}
use Rattle.uc_syntax.specs.declared.statement.Stmt.{Stmt}
use Rattle.uc_values.specs.declared.ty.Ty.{Ty}
use Rattle.uc_values.specs.declared.value.Value.{Value}
use Rattle.uc_meaning.specs.Lookup.{System}
use Rattle.uc_meaning.specs.Code.{Execution, run_by, run_statement, run_through, run_turns}
use Rattle.uc_meaning.specs.OverflowsRuns.{RunMet, TracedRun, traced_statement, run_met_by, run_met_through, turns_met}

abbrev pub run_at : ℕ → System → List Stmt → Execution
run_at n system code = run_by system (run_through n system) code

abbrev pub run_met_at : ℕ → System → List Stmt → RunMet
run_met_at n system code = run_met_by system (run_through n system) (run_met_through n system) code

-- one statement
abbrev pub one_at : ℕ → System → Stmt → Execution
one_at n system s = run_statement system (run_through n system) s

abbrev pub traced_at : ℕ → System → Stmt → TracedRun
traced_at n system s = traced_statement system (run_through n system) (run_met_through n system) s

abbrev pub one_met_at : ℕ → System → Stmt → RunMet
one_met_at n system s = (traced_at n system s).met

-- the turns of a loop
abbrev pub turns_at : ℕ → System → ℕ → Ty → List Stmt → List Value → Execution
turns_at n system x t block vs = run_turns x t (map (one_at n system) block) vs

abbrev pub turns_met_at : ℕ → System → ℕ → Ty → List Stmt → List Value → RunMet
turns_met_at n system x t block vs = turns_met x t (map (traced_at n system) block) vs
