-- Circuits: a list of nodes, each an input (None) or a gate, whose variable is its place in the list.
use Rattle.std.specs.Prelude.{◌≡◌, ℕ, ◌+◌, ◌<◌, ◌^◌, Bool, false, List, [], ◌∷◌, ◌++◌, Option, None, Some, length, drop, slice_index_or, MatchOption}
use Rattle.uc_circuit.specs.declared.literal.Lit.{Lit}
use Rattle.uc_circuit.specs.declared.gate.Gate.{Gate}
use Rattle.uc_circuit.specs.Literals.{literal_value}
use Rattle.uc_circuit.specs.Gates.{OperandsBelow, clauses_of_gate, gate_value}

-- the operands of each gate stand before it
abbrev pub IsOrdered : List (Option Gate) → Type 0
IsOrdered nodes = (n : ℕ) → n < length nodes → MatchOption (slice_index_or nodes n None) (Unit {0}) (OperandsBelow n)

-- what each circuit keeps: its order, and that numbers of 32 bits serve
pub record IsCircuit (nodes : List (Option Gate)) : Type 0 where
  pub ordered : IsOrdered nodes
  pub numbered : length nodes < 2 ^ 32

abbrev pub is_input : Option Gate → ℕ
is_input None = 1
is_input (Some g) = 0

-- how many inputs there are
abbrev pub inputs_of : List (Option Gate) → ℕ
inputs_of [] = 0
inputs_of (node ∷ nodes) = is_input node + inputs_of nodes

-- the value of a variable, where the list has one for each
abbrev pub value_at : List Bool → ℕ → Bool
value_at values n = slice_index_or values n false

-- the values of nodes after those of the nodes before: an input takes the next value that is given, a gate its function's
abbrev pub evaluate : List (Option Gate) → List Bool → List Bool → List Bool
evaluate [] inputs values = values
evaluate (None ∷ nodes) inputs values = evaluate nodes (drop 1 inputs) (values ++ value_at inputs 0 ∷ [])
evaluate (Some g ∷ nodes) inputs values = evaluate nodes inputs (values ++ gate_value (value_at values) g ∷ [])

-- the value of each node, from one value per input
abbrev pub node_values : List (Option Gate) → List Bool → List Bool
node_values nodes inputs = evaluate nodes inputs []

-- the value of a literal, from one value per input
abbrev pub literal_value_in : List (Option Gate) → List Bool → Lit → Bool
literal_value_in nodes inputs l = literal_value (value_at (node_values nodes inputs)) l

-- the values that the inputs among the nodes have
abbrev pub input_values : List (Option Gate) → List Bool → List Bool
input_values [] values = []
input_values (None ∷ nodes) values = value_at values 0 ∷ input_values nodes (drop 1 values)
input_values (Some g ∷ nodes) values = input_values nodes (drop 1 values)

-- one value per node: the inputs have those that are given, in order, and each gate has its function's
pub record AreValues (nodes : List (Option Gate)) (inputs values : List Bool) : Type 0 where
  pub each : length values ≡ length nodes
  pub given : input_values nodes values ≡ inputs
  pub gates : (n : ℕ) (g : Gate) → slice_index_or nodes n None ≡ Some g → value_at values n ≡ gate_value (value_at values) g

-- the clauses of a node: an input has none
abbrev pub node_clauses : ℕ → Option Gate → List (List Lit)
node_clauses n None = []
node_clauses n (Some g) = clauses_of_gate n g

-- the clauses of nodes that are numbered from n on, in order
abbrev pub clauses_from : ℕ → List (Option Gate) → List (List Lit)
clauses_from n [] = []
clauses_from n (node ∷ nodes) = node_clauses n node ++ clauses_from (n + 1) nodes

-- the clauses of all gates, in order
abbrev pub circuit_clauses : List (Option Gate) → List (List Lit)
circuit_clauses nodes = clauses_from 0 nodes
