-- The search in which any variable may be decided.
use Rattle.std.specs.Prelude.{◌≡◌, ◌+◌, ◌^◌, ◌≤◌, ℕ, Bool, true, false, List, length, ◌⊎◌}
use Rattle.uc_log.specs.declared.entry.Entry.{Entry}
use Rattle.uc_log.specs.Entries.{Known}
use Rattle.uc_learner.specs.declared.state.State.{State}
use Rattle.uc_learner.specs.Opened.{GivesEmpty}
use Rattle.uc_learner.specs.Moves.{Ready, NoDecision, SettledOnce, left_of}
use Rattle.uc_learner.specs.Propagated.{Waiting}
use Rattle.uc_learner.specs.Answered.{Holds, NoneEmpty, inputs_count}

-- no variable has a value, and these may be decided
pub record Turned (before : State) (choices : List Bool) (after : State) : Type 0 where
  pub ready : Ready after
  pub waiting : Waiting after
  pub none : NoDecision after
  pub clauses : after.clauses.items ≡ before.clauses.items
  pub inputs : after.inputs.items ≡ choices
  pub all_left : left_of after ≡ 2 ^ inputs_count choices

-- the search may have begun anew
pub record Refreshed (before after : State) : Type 0 where
  pub ready : Ready after
  pub waiting : Waiting after
  pub clauses : after.clauses.items ≡ before.clauses.items
  pub inputs : after.inputs.items ≡ before.inputs.items

-- nothing was learnt and decided yet, or all first clauses were settled once
abbrev pub SettledSince : State → List Entry → State → List Entry → Type 0
SettledSince first log_first s log =
    ((length log ≡ length log_first) × NoDecision s × (s.clauses.items ≡ first.clauses.items)) ⊎ SettledOnce first.clauses.items

-- a search may begin, in which inputs alone are decided
pub record Back (before : State) (log_before : List Entry) (known : Known) (after : State) (log : List Entry) : Type 0 where
  pub ready : Ready after
  pub waiting : Waiting after
  pub inputs : after.inputs.items ≡ before.inputs.items
  pub holds : Holds after known
  pub none_empty : NoneEmpty after.clauses.items
  pub all_left : left_of after ≡ 2 ^ inputs_count before.inputs.items
  pub settled : SettledSince before log_before after log

-- the empty clause was learnt, or the search begins anew
abbrev pub Roamed : State → List Entry → Known → State → List Entry → Bool → Type 0
Roamed before log_before known after log true = GivesEmpty log
Roamed before log_before known after log false = Back before log_before known after log

-- up to the limit all that the inputs may need is left over, where the budget has it
abbrev pub Spares : List Bool → ℕ → ℕ → ℕ → Type 0
Spares inputs start budget limit = start + 2 ^ inputs_count inputs ≤ budget → (start ≤ limit) × (limit + 2 ^ inputs_count inputs ≤ budget)
