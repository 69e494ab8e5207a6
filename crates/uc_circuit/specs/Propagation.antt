-- Unit propagation, and what it does with the clauses of a circuit.
use Rattle.std.specs.Prelude.{◌≡◌, ℕ, ◌<◌, Bool, List, [], ◌∷◌, Option, None, Some, length, drop, map, All, Contains, slice_index_or}
use Rattle.uc_circuit.specs.declared.literal.Lit.{Lit}
use Rattle.uc_circuit.specs.declared.gate.Gate.{Gate}
use Rattle.uc_circuit.specs.Values.{assign, Forces, IsSettled}
use Rattle.uc_circuit.specs.Circuits.{IsOrdered, AreValues, circuit_clauses, inputs_of, node_values, value_at}

-- unit propagation leads from the first values to the last: each step makes the literal true that a unit clause forces
pub data Propagates (clauses : List (List Lit)) : List (Option Bool) → List (Option Bool) → Type 0 where
  done : (values : List (Option Bool)) → Propagates clauses values values
  step : (values last : List (Option Bool)) (clause : List Lit) (l : Lit) → Contains clauses clause → Forces values clause l → Propagates clauses (assign values l) last → Propagates clauses values last

-- the inputs alone have values
abbrev pub given_values : List (Option Gate) → List Bool → List (Option Bool)
given_values [] inputs = []
given_values (None ∷ nodes) inputs = Some (value_at inputs 0) ∷ given_values nodes (drop 1 inputs)
given_values (Some g ∷ nodes) inputs = None ∷ given_values nodes inputs

-- the values of a circuit are what the inputs and the functions of the gates make them
abbrev pub EvaluatesAll : Type 0
EvaluatesAll =
    (nodes : List (Option Gate)) (inputs : List Bool) → IsOrdered nodes → length inputs ≡ inputs_of nodes
    → AreValues nodes inputs (node_values nodes inputs)

-- from the values of the inputs, unit propagation over the clauses of the gates leads to the values of all
abbrev pub InputsReachAll : Type 0
InputsReachAll =
    (nodes : List (Option Gate)) (inputs : List Bool) → IsOrdered nodes → length inputs ≡ inputs_of nodes
    → Propagates (circuit_clauses nodes) (given_values nodes inputs) (map (λ b. Some b) (node_values nodes inputs))

-- where the inputs have values and unit propagation has come to its end without a false clause, each gate has a value
abbrev pub EndsWithAll : Type 0
EndsWithAll =
    (nodes : List (Option Gate)) (values : List (Option Bool)) → IsOrdered nodes
    → ((n : ℕ) → n < length nodes → slice_index_or nodes n None ≡ None → slice_index_or values n None ≡ None → ⊥)
    → All (IsSettled values) (circuit_clauses nodes)
    → (n : ℕ) → n < length nodes → slice_index_or values n None ≡ None → ⊥
