-- What is met where code runs is met along its run.
use Rattle.std.specs.Prelude.{◌≡◌, ℕ, List, ◌∷◌, ◌++◌, length, Option}
use Rattle.uc_lexer.specs.declared.place.Place.{Place}
use Rattle.uc_syntax.specs.declared.statement.Arm.{Arm}
use Rattle.uc_syntax.specs.declared.statement.Stmt.{Stmt}
use Rattle.uc_syntax.specs.declared.statement.Stmt.TheViews.{If, Case}
use Rattle.uc_values.specs.declared.ty.Ty.{Ty}
use Rattle.uc_values.specs.declared.value.Value.{Value}
use Rattle.uc_meaning.specs.Lookup.{System}
use Rattle.uc_meaning.specs.Code.{Running, Bodies, run_statement, in_scope, keep_locals, push_local, taken}
use Rattle.uc_meaning.specs.Steps.{Blocks, check_statement}
use Rattle.uc_meaning.specs.OverflowsRuns.{MetBodies, traced_statement, met_after, conditions_met}
use Rattle.uc_meaning.specs.Checks.{MetBlocks, traced_check}
use Rattle.uc_runs.specs.Levels.{run_at, run_met_at, one_met_at, turns_met_at}

-- A statement that is listed with what it meets runs as it does alone.
abbrev pub TracedCodeIsCode : Type 0
TracedCodeIsCode = (system : System) (bodies : Bodies) (others : MetBodies) (s : Stmt) → (traced_statement system bodies others s).run ≡ run_statement system bodies s

-- One of a next block that is listed with what is met holds where it does alone.
abbrev pub TracedStepsAreSteps : Type 0
TracedStepsAreSteps = (system : System) (blocks : Blocks) (others : MetBlocks) (s : Stmt) → (traced_check system blocks others s).check ≡ check_statement system blocks s

-- What is met in code, and then, where it goes on, in the code behind it.
abbrev pub MetOneAfterAnother : Type 0
MetOneAfterAnother =
    (n : ℕ) (system : System) (front back : List Stmt) (r : Running)
    → run_met_at n system (front ++ back) r ≡ run_met_at n system front r ++ met_after (run_at n system front r) (run_met_at n system back)

-- The conditions up to the first that is true, and then what is met in the block that is taken.
abbrev pub MeetsTaken : ℕ → System → List (Arm Stmt) → Option (List Stmt) → Stmt → Type 0
MeetsTaken n system arms otherwise s = (r : Running) → one_met_at n system s r ≡ conditions_met system r.scope arms ++ run_met_at n system (taken system r.scope arms otherwise) r

abbrev pub MetInConditionals : Type 0
MetInConditionals =
    (n : ℕ) (system : System) (place : Place) (arms : List (Arm Stmt)) (otherwise : Option (List Stmt))
    → MeetsTaken n system arms otherwise (If place arms otherwise) × MeetsTaken n system arms otherwise (Case place arms otherwise)

-- What is met in a turn, and then, where it goes on, in the turns behind it.
abbrev pub MetInTurns : Type 0
MetInTurns =
    (n : ℕ) (system : System) (x : ℕ) (t : Ty) (block : List Stmt) (v : Value) (vs : List Value) (r : Running)
    → turns_met_at n system x t block (v ∷ vs) r
    ≡ run_met_at n system block (push_local x t v r)
    ++ met_after (run_at n system block (push_local x t v r)) (λ r'. turns_met_at n system x t block vs (in_scope r' (keep_locals (length r.scope.locals) r'.scope)))
