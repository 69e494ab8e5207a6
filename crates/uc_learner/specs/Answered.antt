-- What the search's answers say.
use Rattle.std.specs.Prelude.{◌≡◌, ℕ, ◌+◌, ◌<◌, ◌≤◌, Bool, true, false, List, [], ◌∷◌, Option, length, slice_index_or, MatchOption}
use Rattle.uc_circuit.specs.declared.literal.Lit.{Lit}
use Rattle.uc_circuit.specs.Values.{IsFalsified}
use Rattle.uc_circuit.specs.Clauses.{Satisfies}
use Rattle.uc_log.specs.declared.entry.Entry.{Entry}
use Rattle.uc_log.specs.Entries.{Known}
use Rattle.uc_learner.specs.declared.state.State.{State}
use Rattle.uc_learner.specs.Opened.{GivesEmpty}
use Rattle.uc_learner.specs.Learners.{input_flags, valuation, IsUnitRefutable}
use Rattle.uc_learner.specs.Moves.{Ready, NoDecision, left_of}
use Rattle.uc_learner.specs.Propagated.{Waiting}
use Rattle.uc_learner.specs.Sound.{Whole}

-- the clause of that number is empty
abbrev pub IsEmptyAt : List (List Lit) → ℕ → Type 0
IsEmptyAt clauses n = slice_index_or clauses n [] ≡ []

-- no clause is empty
abbrev pub NoneEmpty : List (List Lit) → Type 0
NoneEmpty clauses = (n : ℕ) → n < length clauses → IsEmptyAt clauses n → ⊥

-- no clause behind that number is empty
abbrev pub NoneEmptyAfter : ℕ → List (List Lit) → Type 0
NoneEmptyAfter n clauses = (m : ℕ) → n < m → m < length clauses → IsEmptyAt clauses m → ⊥

-- the number of the last empty clause, None where there is none
abbrev pub LastEmpty : List (List Lit) → Option ℕ → Type 0
LastEmpty clauses r = MatchOption r (NoneEmpty clauses) (λ n. (n < length clauses) × IsEmptyAt clauses n × NoneEmptyAfter n clauses)

-- the search has the variables and clauses of the problem and the log
pub record Holds (s : State) (k : Known) : Type 0 where
  pub inputs : s.inputs.items ≡ input_flags k.circuit
  pub clauses : s.clauses.items ≡ k.clauses

-- the same, but that other variables may be decided: the flags tell the inputs
pub record HoldsFor (flags : List Bool) (s : State) (k : Known) : Type 0 where
  pub inputs : flags ≡ input_flags k.circuit
  pub many : length s.inputs.items ≡ length flags
  pub clauses : s.clauses.items ≡ k.clauses

-- the search has these variables and clauses, and its values make each clause true
pub record HasCandidate (s : State) (k : Known) : Type 0 where
  pub whole : Whole s
  pub holds : Holds s k
  pub satisfies : Satisfies (valuation s.values.items) k.clauses

-- between two steps, with a false clause of that number
pub record AtConflict (s : State) (n : ℕ) : Type 0 where
  pub ready : Ready s
  pub inside : n < length s.clauses.items
  pub conflict : IsFalsified s.values.items (slice_index_or s.clauses.items n [])

-- after a conflict: the empty clause was learnt, or another one and the search goes on
abbrev pub GoesOn : List Bool → State → List Entry → Known → State → List Entry → Bool → Type 0
GoesOn flags before log_before known after log true = GivesEmpty log
GoesOn flags before log_before known after log false =
    HoldsFor flags after known × Ready after × NoneEmpty after.clauses.items × (left_of after + 1 ≤ left_of before) × (after.inputs.items ≡ before.inputs.items)
    × (NoDecision before → ⊥) × Waiting after

-- one entry was learnt from the conflict, and the search ends or goes on
pub record Concluded (flags : List Bool) (before : State) (log_before : List Entry) (known : Known) (after : State) (log : List Entry) (refuted : Bool) : Type 0 where
  pub one_more : length log ≡ length log_before + 1
  pub goes_on : GoesOn flags before log_before known after log refuted

-- unit propagation over the clauses makes one of them false
abbrev pub UnitRefutable : State → Type 0
UnitRefutable s = IsUnitRefutable (length s.inputs.items) s.clauses.items

-- 1 for an input, else 0
abbrev pub one_if : Bool → ℕ
one_if true = 1
one_if false = 0

-- how many variables are inputs
abbrev pub inputs_count : List Bool → ℕ
inputs_count [] = 0
inputs_count (k ∷ inputs) = one_if k + inputs_count inputs
