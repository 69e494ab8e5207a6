-- The room of a check.
use Rattle.std.specs.Prelude.{◌≡◌, ℕ, ◌≤◌, ◌<◌, ◌^◌, List, length, All}
use Rattle.uc_circuit.specs.declared.literal.Lit.{Lit}
use Rattle.uc_log.specs.declared.entry.Entry.{Entry}
use Rattle.uc_log.specs.declared.entry.Entry.TheVariants.{Gate as GateEntry, Atom as AtomEntry, Learnt}
use Rattle.uc_log.specs.Problems.{Question}
use Rattle.uc_log.specs.Entries.{clauses_of, known_of, known_after}

-- every clause of the problem and the log, how many of them are the problem's, a value for each variable, and a step for each
-- hint of an entry
pub record Room : Type 0 where
  pub clauses : List (List Lit)
  pub first : ℕ
  pub variables : ℕ
  pub steps : ℕ

-- how many hints an entry has
abbrev pub hints_of : Entry → ℕ
hints_of (GateEntry g) = 0
hints_of (AtomEntry a) = 0
hints_of (Learnt clause hints) = length hints

-- the room is that of the problem and the log
pub record IsRoomFor (q : Question) (entries : List Entry) (room : Room) : Type 0 where
  pub clauses : room.clauses ≡ (known_after (known_of q) entries).clauses
  pub first : room.first ≡ length (clauses_of q)
  pub variables : room.variables ≡ length (known_after (known_of q) entries).circuit
  pub numbered : room.variables < 2 ^ 32
  pub steps : All (λ e. hints_of e ≤ room.steps) entries
