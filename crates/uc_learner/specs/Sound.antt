-- What the search's state keeps.
use Rattle.std.specs.Prelude.{◌≡◌, ◌<◌, ◌^◌, ◌≤◌, None, length, replicate, vec_capacity}
use Rattle.uc_log.specs.Refutes.{AllWithin}
use Rattle.uc_learner.specs.declared.state.State.{State}
use Rattle.uc_learner.specs.Trail.{values_after, TrailFits}
use Rattle.uc_rings.specs.Watched.{Linked}

-- the values are those of the steps, each step was right when it was made, and numbers of 32 bits serve
pub record Sound (s : State) : Type 0 where
  pub values : s.values.items ≡ values_after (replicate (length s.inputs.items) None) s.trail.items
  pub trail : TrailFits s.inputs.items s.clauses.items (replicate (length s.inputs.items) None) s.trail.items
  pub within : AllWithin (length s.inputs.items) s.clauses.items
  pub numbered : length s.clauses.items < 2 ^ 32
  pub variables : length s.inputs.items < 2 ^ 32

-- each clause watches its literals
abbrev pub AreWatched : State → Type 0
AreWatched s = Linked s.clauses.items (length s.inputs.items) s.watches

-- the trail has room for a literal of each variable
abbrev pub HasRoom : State → Type 0
HasRoom s = length s.inputs.items ≤ vec_capacity s.trail

-- a state that a search may begin with
pub record Whole (s : State) : Type 0 where
  pub sound : Sound s
  pub watched : AreWatched s
  pub room : HasRoom s
