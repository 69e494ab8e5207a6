-- The trail: the literals that were made true, in order, each decided or implied by a clause.
use Rattle.std.specs.Prelude.{◌≡◌, ℕ, ◌+◌, ◌^◌, ◌<◌, Bool, true, false, List, [], ◌∷◌, Option, None, Some, length, take, replicate, All, slice_index_or, MatchOption}
use Rattle.uc_circuit.specs.declared.literal.Lit.{Lit}
use Rattle.uc_circuit.specs.Values.{assign, IsSettled, HasNoValue, Forces}
use Rattle.uc_learner.specs.declared.state.Step.{Step}

-- the values after the steps
abbrev pub values_after : List (Option Bool) → List Step → List (Option Bool)
values_after values [] = values
values_after values (s ∷ rest) = values_after (assign values s.literal) rest

-- the values of n variables after the first i steps
abbrev pub values_at : ℕ → List Step → ℕ → List (Option Bool)
values_at n trail i = values_after (replicate n None) (take i trail)

-- the clause of that number forces the literal
abbrev pub IsImplied : List (List Lit) → List (Option Bool) → Lit → ℕ → Type 0
IsImplied clauses values l n = (n < length clauses) × Forces values (slice_index_or clauses n []) l

-- the variable of the literal is an input
abbrev pub IsInput : List Bool → Lit → Type 0
IsInput inputs l = slice_index_or inputs l.var false ≡ true

-- a literal that had no value; an implied one is forced by its reason, a decided one is of an input
pub record StepFits (inputs : List Bool) (clauses : List (List Lit)) (values : List (Option Bool)) (s : Step) : Type 0 where
  pub inside : s.literal.var < length values
  pub unset : HasNoValue values s.literal
  pub cause : MatchOption s.reason (IsInput inputs s.literal) (IsImplied clauses values s.literal)

-- each step fits the values before it
abbrev pub TrailFits : List Bool → List (List Lit) → List (Option Bool) → List Step → Type 0
TrailFits inputs clauses values [] = Unit {0}
TrailFits inputs clauses values (s ∷ rest) = StepFits inputs clauses values s × TrailFits inputs clauses (assign values s.literal) rest

-- each clause was settled just before a decision
abbrev pub DecisionsAreSettled : List (List Lit) → List (Option Bool) → List Step → Type 0
DecisionsAreSettled clauses values [] = Unit {0}
DecisionsAreSettled clauses values (s ∷ rest) =
    MatchOption s.reason (All (IsSettled values) clauses) (λ _. Unit {0})
    × DecisionsAreSettled clauses (assign values s.literal) rest

-- how many inputs have no value
abbrev pub one_if_free : Bool → Option Bool → ℕ
one_if_free true None = 1
one_if_free true (Some b) = 0
one_if_free false v = 0

-- summed over the variables
abbrev pub free : List Bool → List (Option Bool) → ℕ
free [] values = 0
free (k ∷ inputs) [] = 0
free (k ∷ inputs) (v ∷ values) = one_if_free k v + free inputs values

-- the assignments on the other side of a decision
abbrev pub flipped_side : Option ℕ → ℕ → ℕ
flipped_side None n = 2 ^ n
flipped_side (Some r) n = 0

-- summed over the decisions
abbrev pub flips : List Bool → List (Option Bool) → List Step → ℕ
flips inputs values [] = 0
flips inputs values (s ∷ rest) =
    flipped_side s.reason (free inputs (assign values s.literal)) + flips inputs (assign values s.literal) rest

-- how many assignments of the inputs the search has not ruled out yet
abbrev pub left : List Bool → List (Option Bool) → List Step → ℕ
left inputs values steps = flips inputs values steps + 2 ^ free inputs (values_after values steps)
