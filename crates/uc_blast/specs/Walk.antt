-- The walk over the subterms of a term: first the inputs of the opaque ones, then the words of the others.
use Rattle.std.specs.Prelude.{◌≡◌, ◌⊎◌, ℕ, ◌+◌, ◌<◌, Bool as Truth, true, false, List, [], ◌∷◌, ◌++◌, length, Option, slice_get, slice_index_or, slice_set, Some, All, zero, suc}
use Rattle.uc_values.specs.declared.value.Value.TheVariants.{Bool as truth}
use Rattle.uc_circuit.specs.declared.gate.Gate.{Gate}
use Rattle.uc_circuit.specs.Literals.{positive}
use Rattle.uc_circuit.specs.Circuits.{IsOrdered}
use Rattle.uc_ops.specs.declared.model.Model.{Model}
use Rattle.uc_ops.specs.declared.node.Node.{Node}
use Rattle.uc_ops.specs.Typing.{type_at, types_at}
use Rattle.uc_terms.specs.Subterms.{Marked}
use Rattle.uc_terms.specs.Values.{value}
use Rattle.uc_circuit.specs.declared.signal.Signal.{Signal}
use Rattle.uc_circuit.specs.declared.signal.Signal.TheVariants.{Of}
use Rattle.uc_circuit.specs.Signals.{signal_value, Below}
use Rattle.uc_circuit.specs.Building.{Building, size, nodes_of, Grows, Obeys}
use Rattle.uc_log.specs.declared.atom.Atom.{Atom}
use Rattle.uc_log.specs.declared.atom.Atom.TheVariants.{Bit}
use Rattle.uc_log.specs.Atoms.{Agrees}
use Rattle.uc_blast.specs.Words.{bit_width, worth, words_at, IsWord, AreWords, Gives}
use Rattle.uc_blast.specs.Operations.{IsComputed}
use Rattle.uc_blast.specs.Blasting.{atomic_in, AreBits}

-- the lowest bits of a term
abbrev pub term_bits : ℕ → ℕ → List Atom
term_bits k zero = []
term_bits k (suc n) = term_bits k n ++ Bit k n ∷ []

-- so many variables, from the first on
abbrev pub variables_from : ℕ → ℕ → List Signal
variables_from first zero = []
variables_from first (suc n) = variables_from first n ++ Of (positive (first + n)) ∷ []

-- the variables have the values of their atoms
abbrev pub AgreesWith : Model → List Node → List Atom → (ℕ → Truth) → Type 0
AgreesWith m nodes atoms v = (i : ℕ) (a : Atom) → slice_get atoms i ≡ Some a → Agrees m nodes a (v i)

-- the word is made of inputs, and stands for the value of the term
pub record IsInputWord (nodes : List Node) (atoms : List Atom) (k : ℕ) (word : List Signal) : Type 0 where
  pub is_word : IsWord (length atoms) (type_at nodes k) word
  pub value : (m : Model) (v : ℕ → Truth) → AgreesWith m nodes atoms v → worth v (type_at nodes k) word ≡ value m nodes k

abbrev pub atomic_at : List Node → ℕ → Truth
atomic_at nodes k = atomic_in (slice_get nodes k)

abbrev pub word_of : List (List Signal) → ℕ → List Signal
word_of words k = slice_index_or words k []

-- what happens at a place: an opaque term that is marked gets an input for each of its bits, and else there are no more
pub data IsAsked (nodes : List Node) (marked : Truth) (place : ℕ) (word : List Signal) (before after : List Atom) : Type 0 where
  skipped : (marked ≡ true → atomic_at nodes place ≡ false) → after ≡ before → IsAsked nodes marked place word before after
  asked : marked ≡ true → atomic_at nodes place ≡ true → word ≡ variables_from (length before) (bit_width (type_at nodes place))
      → after ≡ before ++ term_bits place (bit_width (type_at nodes place)) → IsAsked nodes marked place word before after

-- the atom is a bit of a term below the place
abbrev pub IsLower : ℕ → Atom → Type 0
IsLower place (Bit k j) = k < place
IsLower place other = ⊥

-- the marked opaque terms below the place have their words
pub record AreInputs (nodes : List Node) (t : ℕ) (marks : List Truth) (place : ℕ) (atoms : List Atom) (words : List (List Signal)) : Type 0 where
  pub long : length words ≡ place
  pub stands : (k : ℕ) → k < place → Marked marks k → atomic_at nodes k ≡ true → IsInputWord nodes atoms k (word_of words k)
  pub bits : AreBits nodes t atoms
  pub lower : All (IsLower place) atoms
  pub below : All (λ k. k < place) bits.terms

-- the word stands for the value of the term in a circuit whose inputs are the atoms
pub record StandsForTerm (nodes : List Node) (atoms : List Atom) (b : Building) (k : ℕ) (word : List Signal) : Type 0 where
  pub is_word : IsWord (size b) (type_at nodes k) word
  pub value : (m : Model) (v : ℕ → Truth) → AgreesWith m nodes atoms v → Obeys v b → worth v (type_at nodes k) word ≡ value m nodes k

-- the marked terms below the place, and all opaque ones, have words that stand for them
pub record AreStanding (nodes : List Node) (marks : List Truth) (place : ℕ) (atoms : List Atom) (b : Building) (words : List (List Signal)) : Type 0 where
  pub long : length words ≡ length marks
  pub inputs : b.inputs ≡ length atoms
  pub stands : (k : ℕ) → Marked marks k → (k < place) ⊎ (atomic_at nodes k ≡ true) → StandsForTerm nodes atoms b k (word_of words k)

-- the operation of the term at a place has a word, and its parts have theirs
abbrev pub IsReady : List Node → ℕ → List (List Signal) → ℕ → Type 0
IsReady nodes n words place =
    (node : Node) → slice_get nodes place ≡ Some node → IsComputed node.op (types_at nodes node.parts) × AreWords n (types_at nodes node.parts) (words_at words node.parts)

-- the word stands for the operation of the term at a place on what the words of its parts stand for
abbrev pub GivesAt : List Node → Building → List (List Signal) → ℕ → List Signal → Type 0
GivesAt nodes b words place word = (node : Node) → slice_get nodes place ≡ Some node → Gives b node.op (types_at nodes node.parts) (words_at words node.parts) word

-- what happens at a place: a marked term that is not opaque gets the word of its operation
pub data IsStep (nodes : List Node) (marked : Truth) (place : ℕ) (a b : Building) (before after : List (List Signal)) : Type 0 where
  passed : (marked ≡ true → atomic_at nodes place ≡ true) → b ≡ a → after ≡ before → IsStep nodes marked place a b before after
  computed : marked ≡ true → atomic_at nodes place ≡ false → Grows a b → (word : List Signal) → GivesAt nodes b before place word → after ≡ slice_set before place word
      → IsStep nodes marked place a b before after

-- the signal stands for the boolean term
pub record IsGoal (nodes : List Node) (t : ℕ) (atoms : List Atom) (b : Building) (s : Signal) : Type 0 where
  pub below : Below (size b) s
  pub value : (m : Model) (v : ℕ → Truth) → AgreesWith m nodes atoms v → Obeys v b → truth (signal_value v s) ≡ value m nodes t

-- the circuit over inputs for the bits of the opaque subterms, and the signal that stands for the term
pub record IsBlasted (nodes : List Node) (t : ℕ) (atoms : List Atom) (circuit : List (Option Gate)) (s : Signal) : Type 0 where
  pub b : Building
  pub is : circuit ≡ nodes_of b
  pub ordered : IsOrdered circuit
  pub inputs : b.inputs ≡ length atoms
  pub goal : IsGoal nodes t atoms b s
  pub bits : AreBits nodes t atoms
