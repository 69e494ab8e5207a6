-- What a learner is to its callers.
use Rattle.std.specs.Prelude.{◌≡◌, ℕ, Bool, true, false, List, Option, None, Some, length, map, slice_index_or}
use Rattle.std.specs.Option.{unwrap_or}
use Rattle.uc_circuit.specs.declared.literal.Lit.{Lit}
use Rattle.uc_circuit.specs.declared.gate.Gate.{Gate}
use Rattle.uc_circuit.specs.Gates.{OperandsBelow}
use Rattle.uc_log.specs.declared.entry.Entry.{Entry}
use Rattle.uc_log.specs.declared.entry.Entry.TheVariants.{Gate as GateEntry, Atom as AtomEntry, Learnt}
use Rattle.uc_log.specs.Problems.{Question}
use Rattle.uc_log.specs.Refutes.{Refutes, Within, unvalued}
use Rattle.uc_log.specs.Entries.{known_of, known_after}

-- for each variable whether it is an input, the clauses by their numbers, the values of the variables, and how many entries of
-- the log were taken over or made
pub record Learning : Type 0 where
  pub inputs : List Bool
  pub clauses : List (List Lit)
  pub values : List (Option Bool)
  pub entries : ℕ

-- an input is a node without a gate
abbrev pub flag_of : Option Gate → Bool
flag_of None = true
flag_of (Some g) = false

-- for each node whether it is an input
abbrev pub input_flags : List (Option Gate) → List Bool
input_flags nodes = map flag_of nodes

-- the learner has the inputs, gates and clauses of the problem and of these entries, and no others
pub record HasTaken (q : Question) (entries : List Entry) (l : Learning) : Type 0 where
  pub inputs : l.inputs ≡ input_flags (known_after (known_of q) entries).circuit
  pub clauses : l.clauses ≡ (known_after (known_of q) entries).clauses
  pub count : l.entries ≡ length entries

-- the same of the opened problem
abbrev pub HasTakenFor : Option Question → List Entry → Learning → Type 0
HasTakenFor None entries l = ⊥
HasTakenFor (Some q) entries l = HasTaken q entries l

-- the operands or literals of an entry are of n variables
abbrev pub IsOver : ℕ → Entry → Type 0
IsOver n (GateEntry g) = OperandsBelow n g
IsOver n (AtomEntry a) = Unit {0}
IsOver n (Learnt clause hints) = Within n clause

-- unit propagation over the clauses of n variables makes one of them false
pub record IsUnitRefutable (n : ℕ) (clauses : List (List Lit)) : Type 0 where
  pub hints : List ℕ
  pub refutes : Refutes clauses (unvalued n) hints

-- a value for each variable: one without a value counts as false
abbrev pub valuation : List (Option Bool) → ℕ → Bool
valuation values n = unwrap_or (slice_index_or values n None) false
