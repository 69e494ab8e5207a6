-- Clauses that are not watched yet.
use Rattle.std.specs.Prelude.{◌≡◌, ◌≤◌, ℕ, length, take, vec_capacity}
use Rattle.uc_learner.specs.declared.state.State.{State}
use Rattle.uc_learner.specs.Sound.{AreWatched}
use Rattle.uc_rings.specs.Watched.{Linked}

-- the first clauses are watched, over some of the variables
pub record AreWatchedTo (s : State) (first : ℕ) : Type 0 where
  pub variables : ℕ
  pub fewer : variables ≤ length s.inputs.items
  pub linked : Linked (take first s.clauses.items) variables s.watches

-- all clauses are watched, and nothing else changed
pub record Rewatched (before after : State) : Type 0 where
  pub clauses : after.clauses.items ≡ before.clauses.items
  pub inputs : after.inputs.items ≡ before.inputs.items
  pub values : after.values.items ≡ before.values.items
  pub trail : after.trail.items ≡ before.trail.items
  pub head : after.head ≡ before.head
  pub capacity : vec_capacity after.trail ≡ vec_capacity before.trail
  pub watched : AreWatched after
