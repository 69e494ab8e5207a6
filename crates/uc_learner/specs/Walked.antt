-- What the walk back over the trail keeps.
use Rattle.std.specs.Prelude.{◌≡◌, ℕ, ◌<◌, ◌≤◌, Bool, List, [], ◌∷◌, None, length, All, slice_index_or}
use Rattle.uc_circuit.specs.declared.literal.Lit.{Lit}
use Rattle.uc_circuit.specs.Literals.{negate}
use Rattle.uc_circuit.specs.Values.{HasNoValue, IsFalsified}
use Rattle.uc_learner.specs.declared.state.State.{State}
use Rattle.uc_learner.specs.declared.state.Step.{Step}
use Rattle.uc_learner.specs.Trail.{values_at}
use Rattle.uc_learner.specs.Analysis.{Explains}

-- step i of the trail is the decision of a literal
pub record IsDecision (trail : List Step) (i : ℕ) (l : Lit) : Type 0 where
  pub inside : i < length trail
  pub reason : (d : Step) → (slice_index_or trail i d).reason ≡ None
  pub literal : (d : Step) → (slice_index_or trail i d).literal ≡ l

-- The first of these literals has no value at the decisions before the target. Where there is none yet, no decision stands
-- from step i up to the target.
abbrev pub FirstIsOpen : List Step → ℕ → ℕ → ℕ → List Lit → Type 0
FirstIsOpen trail n i target [] = (j : ℕ) (l : Lit) → IsDecision trail j l → j < target → j < i
FirstIsOpen trail n i target (m ∷ rest) = (j : ℕ) (l : Lit) → IsDecision trail j l → j < target → HasNoValue (values_at n trail j) m

-- the first literal of the learnt clause negates the last decision, the others are false up to the decision at the target
pub record Shape (trail : List Step) (n i : ℕ) (asserted : Lit) (rest : List Lit) (target : ℕ) : Type 0 where
  pub place : ℕ
  pub decided : Lit
  pub decision : IsDecision trail place decided
  pub negates : asserted ≡ negate decided
  pub undone : Lit
  pub target_decided : IsDecision trail target undone
  pub target_le : target ≤ place
  pub at_le : i ≤ target
  pub rest_false : IsFalsified (values_at n trail target) rest
  pub first_open : FirstIsOpen trail n i target rest

-- the same of the whole clause: an empty one has no decision to negate
abbrev pub HasShape : List Step → ℕ → ℕ → List Lit → ℕ → Type 0
HasShape trail n i [] target = Unit {0}
HasShape trail n i (l ∷ rest) target = Shape trail n i l rest target

-- behind step i: from the values that are marked or kept the hints lead to a false clause
pub record Walked (s : State) (i : ℕ) (marks : List Bool) (kept : List Lit) (hints : List ℕ) (target : ℕ) : Type 0 where
  pub marks_cover : length marks ≡ length s.inputs.items
  pub explains : Explains s.clauses.items (values_at (length s.inputs.items) s.trail.items i) marks kept hints
  pub unvalued : All (HasNoValue (values_at (length s.inputs.items) s.trail.items i)) kept
  pub shape : HasShape s.trail.items (length s.inputs.items) i kept target
