-- The log and its meter.
use Rattle.std.specs.Prelude.{◌≡◌, ℕ, ◌+◌, ◌≤◌, List, ◌++◌, Option, length}
use Rattle.uc_circuit.specs.declared.literal.Lit.{Lit}
use Rattle.uc_ops.specs.declared.node.Node.{Node}
use Rattle.uc_log.specs.declared.entry.Entry.{Entry}
use Rattle.uc_log.specs.Problems.{Question}
use Rattle.uc_log.specs.Refutes.{IsLearnt}
use Rattle.uc_log.specs.Meters.{IsValidFor}
use Rattle.uc_learner.specs.Opened.{known_now}

-- the log is valid for the opened problem, and each of its entries was spent
pub record IsRecorded (nodes : List Node) (opened : Option Question) (here : ℕ) (entries : List Entry) : Type 0 where
  pub valid : IsValidFor nodes opened entries
  pub count : length entries ≡ here

-- the clause and its hints meet the condition of a learnt entry after the log
abbrev pub LearntFits : Option Question → List Entry → List Lit → List ℕ → Type 0
LearntFits opened entries clause hints =
    IsLearnt (length (known_now opened entries).circuit) (known_now opened entries).clauses clause hints

-- the entries that were there stay
pub record Extends (before after : List Entry) : Type 0 where
  pub more : List Entry
  pub is : after ≡ before ++ more

-- The log goes on with the meter, of which the first three tell: what is recorded, the problem that stays open, that what was spent
-- in all grew as what was spent here, and the entries that stay.
pub record KeepsRecord {M : Type 0} (opened : M → Option Question) (here total : M → ℕ) (nodes : List Node) (before : M) (log_before : List Entry) (after : M) (log : List Entry) : Type 0 where
  pub recorded : IsRecorded nodes (opened after) (here after) log
  pub still_open : opened after ≡ opened before
  pub spent : total after + here before ≡ total before + here after
  pub stay : Extends log_before log

-- the same, by one entry at most
pub record RecordsOne {M : Type 0} (opened : M → Option Question) (here total : M → ℕ) (nodes : List Node) (before : M) (log_before : List Entry) (after : M) (log : List Entry) : Type 0 where
  pub kept : KeepsRecord opened here total nodes before log_before after log
  pub few : here after ≤ here before + 1
