-- How the search's state changes.
use Rattle.std.specs.Prelude.{◌≡◌, ℕ, ◌+◌, ◌<◌, ◌≤◌, Bool, true, List, [], ◌∷◌, ◌++◌, Option, None, Some, length, take, replicate, slice_index_or, MatchOption, All, ◌⊎◌, false, vec_capacity}
use Rattle.uc_circuit.specs.Values.{assign}
use Rattle.uc_learner.specs.declared.state.State.{State}
use Rattle.uc_learner.specs.declared.state.Step.{Step}
use Rattle.uc_learner.specs.Trail.{DecisionsAreSettled, one_if_free, left}
use Rattle.uc_learner.specs.Sound.{Sound, AreWatched, HasRoom}
use Rattle.uc_learner.specs.Guarded.{DecisionsAreGuarded}
use Rattle.uc_learner.specs.ClauseStates.{AllSettled, ConflictIs}
use Rattle.uc_circuit.specs.declared.literal.Lit.{Lit}

-- one step more
pub record Pushed (before : State) (step : Step) (after : State) : Type 0 where
  pub clauses : after.clauses.items ≡ before.clauses.items
  pub inputs : after.inputs.items ≡ before.inputs.items
  pub trail : after.trail.items ≡ before.trail.items ++ step ∷ []
  pub values : after.values.items ≡ assign before.values.items step.literal
  pub watches : after.watches ≡ before.watches
  pub head : after.head ≡ before.head
  pub capacity : vec_capacity after.trail ≡ vec_capacity before.trail

-- the first steps alone
pub record Cut (before : State) (target : ℕ) (after : State) : Type 0 where
  pub clauses : after.clauses.items ≡ before.clauses.items
  pub inputs : after.inputs.items ≡ before.inputs.items
  pub trail : after.trail.items ≡ take target before.trail.items
  pub watches : after.watches ≡ before.watches
  pub capacity : vec_capacity after.trail ≡ vec_capacity before.trail
  pub sound : Sound after

-- how many variables have no value
abbrev pub unset_count : List (Option Bool) → ℕ
unset_count [] = 0
unset_count (v ∷ values) = one_if_free true v + unset_count values

-- between two steps: before each decision propagation was complete, and each clause settled
pub record Ready (s : State) : Type 0 where
  pub sound : Sound s
  pub are_settled : DecisionsAreSettled s.clauses.items (replicate (length s.inputs.items) None) s.trail.items
  pub watched : AreWatched s
  pub guarded : DecisionsAreGuarded (length s.inputs.items) s.trail.items s.watches.watched.items
  pub room : HasRoom s

-- how many assignments of the inputs are not ruled out
abbrev pub left_of : State → ℕ
left_of s = left s.inputs.items (replicate (length s.inputs.items) None) s.trail.items

-- the search went on with the same clauses
pub record Onward (before after : State) : Type 0 where
  pub clauses : after.clauses.items ≡ before.clauses.items
  pub inputs : after.inputs.items ≡ before.inputs.items
  pub ready : Ready after
  pub left_le : left_of after ≤ left_of before
  pub unset_le : unset_count after.values.items ≤ unset_count before.values.items

-- the variable is an input without a value
abbrev pub IsFreeInput : State → ℕ → Type 0
IsFreeInput s x = (x < length s.inputs.items) × (slice_index_or s.inputs.items x false ≡ true) × (slice_index_or s.values.items x None ≡ None)

-- an input without a value, None where there is none
abbrev pub Chosen : State → Option ℕ → Type 0
Chosen s r =
    MatchOption r ((x : ℕ) → slice_index_or s.inputs.items x false ≡ true → slice_index_or s.values.items x None ≡ None → ⊥)
    (IsFreeInput s)

-- a decision of an input without a value, None where there is none
abbrev pub Decides : State → Option Step → Type 0
Decides s r =
    MatchOption r ((x : ℕ) → slice_index_or s.inputs.items x false ≡ true → slice_index_or s.values.items x None ≡ None → ⊥)
    (λ step. (step.reason ≡ None) × IsFreeInput s step.literal.var)

-- a state in which all clauses were settled, before any decision was made
pub record SettledOnce (clauses : List (List Lit)) : Type 0 where
  pub values : List (Option Bool)
  pub settled : AllSettled clauses values

-- each step is implied
abbrev pub NoDecision : State → Type 0
NoDecision s = All (λ step. step.reason ≡ None → ⊥) s.trail.items

-- None where nothing is forced or false and each input has a value, else the number of a false clause
pub record Descended (before after : State) (r : Option ℕ) : Type 0 where
  pub onward : Onward before after
  pub conflict : ConflictIs after r
  pub complete : MatchOption r ((x : ℕ) → slice_index_or after.inputs.items x false ≡ true → slice_index_or after.values.items x None ≡ None → ⊥) (λ _. Unit {0})
  pub decided : SettledOnce before.clauses.items ⊎ (NoDecision before → NoDecision after)
