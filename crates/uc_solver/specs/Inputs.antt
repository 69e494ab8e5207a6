-- The bits that inputs give to the symbols of a term.
use Rattle.std.specs.Prelude.{◌≡◌, ℕ, ◌<◌, ◌≤◌, ◌%◌, ◌^◌, Bool as Truth, true, false, nat_eq, List, length, slice_get, slice_set, slice_index_or, Some, bit_or}
use Rattle.std.specs.Int.{bit_at}
use Rattle.uc_values.specs.Values.{nothing}
use Rattle.uc_values.specs.declared.ty.Ty.{Ty}
use Rattle.uc_values.specs.declared.ty.Ty.TheVariants.{Bool, Bv}
use Rattle.uc_values.specs.declared.value.Value.{Value}
use Rattle.uc_values.specs.declared.value.Value.TheVariants.{Bool as truth, Bv as bits}
use Rattle.uc_ops.specs.declared.node.Node.{Node}
use Rattle.uc_ops.specs.Typing.{type_at}
use Rattle.uc_ops.specs.Meaning.{part}
use Rattle.uc_log.specs.declared.atom.Atom.{Atom}
use Rattle.uc_log.specs.declared.atom.Atom.TheVariants.{Bit}
use Rattle.uc_blast.specs.Words.{bit_width}

-- the bits of a boolean or of a bit-vector as its value
abbrev pub bits_value : Ty → ℕ → Value
bits_value Bool n = truth (nat_eq (n % 2) 1)
bits_value (Bv width) n = bits width n
bits_value other n = nothing

-- the bits of a term, by its number
abbrev pub word_at : List ℕ → ℕ → ℕ
word_at words k = slice_index_or words k 0

-- the atom is a bit of a term
abbrev pub IsTermBit : List Node → Atom → Type 0
IsTermBit nodes (Bit k j) = (k < length nodes) × (j < bit_width (type_at nodes k))
IsTermBit nodes other = ⊥

-- the atom is one of the lowest 64 bits of a term below the bound
abbrev pub IsWithin : ℕ → Atom → Type 0
IsWithin count (Bit k j) = (k < count) × (j < 64)
IsWithin count other = ⊥

-- the words with the bit of the atom set, where its input is true
abbrev pub with_bit : List ℕ → Atom → Truth → List ℕ
with_bit words (Bit k j) true = slice_set words k (bit_or (word_at words k) (2 ^ j))
with_bit words atom input = words

abbrev pub one_if : Truth → ℕ
one_if true = 1
one_if false = 0

-- the first inputs are set in the words, and the bits of the others are 0
pub record AreSet (nodes : List Node) (atoms : List Atom) (inputs : List Truth) (count : ℕ) (words : List ℕ) : Type 0 where
  pub long : length words ≡ length nodes
  pub set : (i k j : ℕ) → i < count → slice_get atoms i ≡ Some (Bit k j) → bit_at (word_at words k) j ≡ one_if (slice_index_or inputs i false)
  pub clear : (i k j : ℕ) → count ≤ i → slice_get atoms i ≡ Some (Bit k j) → bit_at (word_at words k) j ≡ 0
  pub small : (k : ℕ) → word_at words k < 2 ^ bit_width (type_at nodes k)

-- each term has the value of its bits
pub record AreBitValues (nodes : List Node) (words : List ℕ) (values : List Value) : Type 0 where
  pub long : length values ≡ length nodes
  pub same : (k : ℕ) → k < length nodes → part values k ≡ bits_value (type_at nodes k) (word_at words k)
