-- What taking over an entry does.
use Rattle.std.specs.Prelude.{◌≡◌, ◌<◌, ◌≤◌, ◌^◌, Bool, [], ◌∷◌, ◌++◌, None, length, take}
use Rattle.uc_log.specs.declared.entry.Entry.{Entry}
use Rattle.uc_log.specs.Entries.{Known, add}
use Rattle.uc_learner.specs.declared.state.State.{State}
use Rattle.uc_learner.specs.Sound.{Sound, HasRoom}
use Rattle.uc_learner.specs.Answered.{Holds}

-- a variable more, without a value
pub record VariableAdded (before : State) (is_input : Bool) (after : State) : Type 0 where
  pub clauses : after.clauses.items ≡ before.clauses.items
  pub inputs : after.inputs.items ≡ before.inputs.items ++ is_input ∷ []
  pub values : after.values.items ≡ before.values.items ++ None ∷ []
  pub trail : after.trail.items ≡ before.trail.items
  pub watches : after.watches ≡ before.watches
  pub room : length after.inputs.items < 2 ^ 32
  pub trail_room : HasRoom after

-- the entry is taken over: whatever the state held is held with the entry
pub record Added (before : State) (e : Entry) (after : State) : Type 0 where
  pub sound : Sound after
  pub watches : after.watches ≡ before.watches
  pub front : take (length before.clauses.items) after.clauses.items ≡ before.clauses.items
  pub longer : length before.clauses.items ≤ length after.clauses.items
  pub wider : length before.inputs.items ≤ length after.inputs.items
  pub room : HasRoom before → HasRoom after
  pub holds : (k : Known) → Holds before k → Holds after (add k e)
