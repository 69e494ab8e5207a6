-- What a scan of all clauses says.
use Rattle.std.specs.Prelude.{ℕ, ◌<◌, Bool, List, [], Option, length, All, slice_index_or, MatchOption}
use Rattle.uc_circuit.specs.declared.literal.Lit.{Lit}
use Rattle.uc_circuit.specs.Values.{IsFalsified}
use Rattle.uc_learner.specs.declared.state.State.{State}
use Rattle.uc_circuit.specs.Values.{IsSettled}

-- no clause is false or unit
abbrev pub AllSettled : List (List Lit) → List (Option Bool) → Type 0
AllSettled clauses values = All (IsSettled values) clauses

-- None where nothing is forced or false, else the number of a false clause
abbrev pub ConflictIs : State → Option ℕ → Type 0
ConflictIs s r =
    MatchOption r (AllSettled s.clauses.items s.values.items)
    (λ n. (n < length s.clauses.items) × IsFalsified s.values.items (slice_index_or s.clauses.items n []))
