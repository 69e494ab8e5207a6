-- What bit-blasting gives: a problem that stands for a term.
use Rattle.std.specs.Prelude.{◌≡◌, ◌≢◌, ℕ, ◌+◌, ◌<◌, ◌≤◌, Bool as Truth, true, false, List, [], ◌∷◌, Option, None, Some, length, slice_get, All, AllPairs}
use Rattle.std.specs.List.{AllZip}
use Rattle.uc_circuit.specs.declared.gate.Gate.TheVariants.{And}
use Rattle.uc_circuit.specs.Literals.{positive, negate}
use Rattle.uc_circuit.specs.Circuits.{literal_value_in}
use Rattle.uc_values.specs.declared.ty.Ty.TheVariants.{Bool}
use Rattle.uc_values.specs.declared.value.Value.TheVariants.{Bool as truth}
use Rattle.uc_ops.specs.declared.model.Model.{Model}
use Rattle.uc_ops.specs.declared.op.Op.{Op}
use Rattle.uc_ops.specs.declared.op.Op.TheVariants.{Symbol, App}
use Rattle.uc_ops.specs.declared.node.Node.{Node}
use Rattle.uc_ops.specs.Typing.{type_at}
use Rattle.uc_terms.specs.Subterms.{IsSubterm}
use Rattle.uc_terms.specs.Values.{value}
use Rattle.uc_terms.specs.Laws.{IsModelOf}
use Rattle.uc_log.specs.declared.atom.Atom.{Atom}
use Rattle.uc_log.specs.declared.atom.Atom.TheVariants.{Free, Bit}
use Rattle.uc_log.specs.Atoms.{Agrees}
use Rattle.uc_log.specs.Problems.{Question, IsModelOf as IsModelOfProblem}
use Rattle.uc_blast.specs.Words.{is_bits, bit_width}

-- the term is a boolean, and each subterm is a boolean or a bit-vector
pub record IsBlastable (nodes : List Node) (t : ℕ) : Type 0 where
  pub there : t < length nodes
  pub boolean : type_at nodes t ≡ Bool
  pub bits : (k : ℕ) → IsSubterm nodes t k → is_bits (type_at nodes k) ≡ true

-- a symbol, or a function that is applied: no circuit computes its value
abbrev pub is_atomic : Op → Truth
is_atomic (Symbol number ty) = true
is_atomic (App number ty) = true
is_atomic other = false

abbrev pub atomic_in : Option Node → Truth
atomic_in None = false
atomic_in (Some node) = is_atomic node.op

-- an opaque subterm: a symbol or an application
pub record IsOpaque (nodes : List Node) (t k : ℕ) : Type 0 where
  pub below : IsSubterm nodes t k
  pub atomic : atomic_in (slice_get nodes k) ≡ true

-- the atom is a bit of an opaque subterm
abbrev pub IsOpaqueBit : List Node → ℕ → Atom → Type 0
IsOpaqueBit nodes t (Bit k j) = IsOpaque nodes t k × (j < bit_width (type_at nodes k))
IsOpaqueBit nodes t other = ⊥

-- no two are the same
abbrev pub AreDifferent : {X : Type 0} → List X → Type 0
AreDifferent xs = AllPairs (λ x y. x ≢ y) xs

-- how many bits the values of the terms have, all together
abbrev pub bits_of : List Node → List ℕ → ℕ
bits_of nodes [] = 0
bits_of nodes (k ∷ ks) = bit_width (type_at nodes k) + bits_of nodes ks

-- each atom is a bit of an opaque subterm, no two are the same, and they are no more than these subterms have bits
pub record AreBits (nodes : List Node) (t : ℕ) (atoms : List Atom) : Type 0 where
  pub opaque : All (IsOpaqueBit nodes t) atoms
  pub different : AreDifferent atoms
  pub terms : List ℕ
  pub each : All (IsOpaque nodes t) terms
  pub apart : AreDifferent terms
  pub few : length atoms ≤ bits_of nodes terms

-- The problem of a goal that comes out as a constant: one free input, and a gate that is never true. The goal is the gate, or its
-- negation where the constant is true.
abbrev pub constant_question : Truth → Question
constant_question constant = record {
  circuit = None ∷ Some (And (positive 0) (negate (positive 0))) ∷ [];
  goal = record { var = 1; neg = constant };
  atoms = Free ∷ [];
}

-- what the inputs of the problem stand for: bits of opaque subterms, unless the goal is a constant
pub data HasInputs (nodes : List Node) (t : ℕ) (q : Question) : Type 0 where
  bits : AreBits nodes t q.atoms → HasInputs nodes t q
  constant : (b : Truth) → ((m : Model) → value m nodes t ≡ truth b) → q ≡ constant_question b → HasInputs nodes t q

-- The problem stands for the term: a model of the term has inputs that make it one of the problem, and inputs that agree with a
-- model give the goal the value of the term.
pub record StandsFor (nodes : List Node) (t : ℕ) (q : Question) : Type 0 where
  pub there : (m : Model) → IsModelOf m nodes t → (inputs : List Truth) × IsModelOfProblem m inputs nodes q
  pub same : (m : Model) (inputs : List Truth) → AllZip (Agrees m nodes) q.atoms inputs → value m nodes t ≡ truth (literal_value_in q.circuit inputs q.goal)
