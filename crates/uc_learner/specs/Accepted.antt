-- What a check of a proposed clause finds on the trail.
use Rattle.std.specs.Prelude.{◌≡◌, ℕ, ◌+◌, ◌<◌, ◌≤◌, List, [], ◌∷◌, None, length, slice_index_or}
use Rattle.uc_circuit.specs.declared.literal.Lit.{Lit}
use Rattle.uc_circuit.specs.Literals.{negate}
use Rattle.uc_learner.specs.declared.state.Step.{Step}
use Rattle.uc_learner.specs.Walked.{IsDecision}

-- the step at the place made the literal false
pub record FalsifiedAt (trail : List Step) (l : Lit) (p : ℕ) : Type 0 where
  pub inside : p < length trail
  pub is : (d : Step) → (slice_index_or trail p d).literal ≡ negate l

-- a step before the target made it false
pub record FalsifiedBefore (trail : List Step) (target : ℕ) (l : Lit) : Type 0 where
  pub place : ℕ
  pub before : place < target
  pub at : FalsifiedAt trail l place

-- each of the first n literals of the clause but the first one
abbrev pub RestFalsified : List Step → ℕ → List Lit → ℕ → Type 0
RestFalsified trail target clause n = (i : ℕ) (d : Lit) → 1 ≤ i → i < n → FalsifiedBefore trail target (slice_index_or clause i d)

-- the first decision from that place on
pub record FirstDecision (trail : List Step) (from t : ℕ) : Type 0 where
  pub le : from ≤ t
  pub inside : t < length trail
  pub reason : (d : Step) → (slice_index_or trail t d).reason ≡ None
  pub none_before : (j : ℕ) (l : Lit) → IsDecision trail j l → from ≤ j → j < t → ⊥

-- behind the place of the second literal, 0 where there is none
abbrev pub BehindSecond : List Step → List Lit → ℕ → Type 0
BehindSecond trail [] from = from ≡ 0
BehindSecond trail (l ∷ []) from = from ≡ 0
BehindSecond trail (l ∷ m ∷ rest) from = (p : ℕ) × FalsifiedAt trail m p × (from ≡ p + 1)
