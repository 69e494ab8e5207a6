-- The entries of a log: what each adds, and its condition.
use Rattle.std.specs.Prelude.{◌≡◌, List, [], ◌∷◌, ◌++◌, Option, None, Some, length, AllPairs}
use Rattle.uc_circuit.specs.declared.literal.Lit.{Lit}
use Rattle.uc_circuit.specs.declared.gate.Gate.{Gate}
use Rattle.uc_circuit.specs.Gates.{clauses_of_gate, OperandsBelow}
use Rattle.uc_circuit.specs.Circuits.{circuit_clauses}
use Rattle.uc_ops.specs.declared.node.Node.{Node}
use Rattle.uc_log.specs.declared.atom.Atom.{Atom}
use Rattle.uc_log.specs.declared.entry.Entry.{Entry}
use Rattle.uc_log.specs.declared.entry.Entry.TheVariants.{Gate as GateEntry, Atom as AtomEntry, Learnt}
use Rattle.uc_log.specs.Atoms.{IsMeant}
use Rattle.uc_log.specs.Problems.{Question}
use Rattle.uc_log.specs.Refutes.{IsLearnt}

-- what is known before an entry: the circuit so far, an atom for each of its inputs, and the clauses so far by their numbers
pub record Known : Type 0 where
  pub circuit : List (Option Gate)
  pub atoms : List Atom
  pub clauses : List (List Lit)

-- the clauses of a problem: those of its gates in order, then the goal
abbrev pub clauses_of : Question → List (List Lit)
clauses_of q = circuit_clauses q.circuit ++ (q.goal ∷ []) ∷ []

abbrev pub known_of : Question → Known
known_of q = record { circuit = q.circuit; atoms = q.atoms; clauses = clauses_of q }

-- the gate or input that an entry adds to the circuit
abbrev pub added_nodes : Entry → List (Option Gate)
added_nodes (GateEntry g) = Some g ∷ []
added_nodes (AtomEntry a) = None ∷ []
added_nodes (Learnt clause hints) = []

-- the atom of the input that it adds
abbrev pub added_atoms : Entry → List Atom
added_atoms (GateEntry g) = []
added_atoms (AtomEntry a) = a ∷ []
added_atoms (Learnt clause hints) = []

-- the clauses that an entry gives: a gate those of its number
abbrev pub given : Known → Entry → List (List Lit)
given k (GateEntry g) = clauses_of_gate (length k.circuit) g
given k (AtomEntry a) = []
given k (Learnt clause hints) = clause ∷ []

abbrev pub add : Known → Entry → Known
add k e = record { circuit = k.circuit ++ added_nodes e; atoms = k.atoms ++ added_atoms e; clauses = k.clauses ++ given k e }

abbrev pub known_after : Known → List Entry → Known
known_after k [] = k
known_after k (e ∷ rest) = known_after (add k e) rest

-- The condition of an entry: the operands of a gate are in the circuit so far, an atom is one of these terms, a learnt clause
-- follows by its hints.
abbrev pub Meets : List Node → Known → Entry → Type 0
Meets nodes k (GateEntry g) = OperandsBelow (length k.circuit) g
Meets nodes k (AtomEntry a) = IsMeant nodes a
Meets nodes k (Learnt clause hints) = IsLearnt (length k.circuit) k.clauses clause hints

abbrev pub AllMeet : List Node → Known → List Entry → Type 0
AllMeet nodes k [] = Unit {0}
AllMeet nodes k (e ∷ rest) = Meets nodes k e × AllMeet nodes (add k e) rest

-- each entry meets its condition, and no two are equal
pub record IsValid (nodes : List Node) (k : Known) (entries : List Entry) : Type 0 where
  pub all_meet : AllMeet nodes k entries
  pub different : AllPairs (λ a b. a ≡ b → ⊥) entries

-- the last entry gives the empty clause
abbrev pub EndsEmpty : Known → List Entry → Type 0
EndsEmpty k [] = ⊥
EndsEmpty k (e ∷ []) = given k e ≡ [] ∷ []
EndsEmpty k (e ∷ next ∷ rest) = EndsEmpty (add k e) (next ∷ rest)

-- a log is accepted where every entry meets its condition and the last gives the empty clause
abbrev pub Accepts : List Node → Question → List Entry → Type 0
Accepts nodes q entries = AllMeet nodes (known_of q) entries × EndsEmpty (known_of q) entries
