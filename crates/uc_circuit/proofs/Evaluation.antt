-- The values of a circuit's nodes, part by part.
use Rattle.std.proofs.Common.{◌≡◌, ℕ, ◌+◌, ◌<◌, ◌≤◌, Bool, false, List, [], ◌∷◌, ◌++◌, Option, None, Some, length, get_or, take, drop, refl, sym, ◌∙◌, ap, arith, zero-add}
use Rattle.std.proofs.lemmas.List.{drop-drop, get_or_append_left, length_push, take-append-drop, length-take-le}
use Rattle.uc_circuit.specs.declared.literal.Lit.{Lit}
use Rattle.uc_circuit.specs.declared.gate.Gate.{Gate}
use Rattle.uc_circuit.specs.Literals.{literal_value}
use Rattle.uc_circuit.specs.Gates.{gate_value}
use Rattle.uc_circuit.specs.Circuits.{evaluate, inputs_of, literal_value_in, node_values, value_at}

pub length-evaluate : (nodes : List (Option Gate)) (inputs values : List Bool) → length (evaluate nodes inputs values) ≡ length values + length nodes
length-evaluate [] inputs values = omega arith
length-evaluate (None ∷ nodes) inputs values =
    let rest : length (evaluate nodes (drop 1 inputs) (values ++ value_at inputs 0 ∷ [])) ≡ length (values ++ value_at inputs 0 ∷ []) + length nodes = length-evaluate nodes (drop 1 inputs) (values ++ value_at inputs 0 ∷ []) in
    omega (arith, length_push values (value_at inputs 0))
length-evaluate (Some g ∷ nodes) inputs values =
    let rest : length (evaluate nodes inputs (values ++ gate_value (value_at values) g ∷ [])) ≡ length (values ++ gate_value (value_at values) g ∷ []) + length nodes = length-evaluate nodes inputs (values ++ gate_value (value_at values) g ∷ []) in
    omega (arith, length_push values (gate_value (value_at values) g))

-- the values before stay
pub get_or-evaluate : (nodes : List (Option Gate)) (inputs values : List Bool) (i : ℕ) (d : Bool) → i < length values → get_or (evaluate nodes inputs values) i d ≡ get_or values i d
get_or-evaluate [] inputs values i d h = refl
get_or-evaluate (None ∷ nodes) inputs values i d h =
    get_or-evaluate nodes (drop 1 inputs) (values ++ value_at inputs 0 ∷ []) i d (omega (arith, length_push values (value_at inputs 0)))
    ∙ get_or_append_left values (value_at inputs 0 ∷ []) d i h
get_or-evaluate (Some g ∷ nodes) inputs values i d h =
    get_or-evaluate nodes inputs (values ++ gate_value (value_at values) g ∷ []) i d (omega (arith, length_push values (gate_value (value_at values) g)))
    ∙ get_or_append_left values (gate_value (value_at values) g ∷ []) d i h

pub evaluate-append : (first second : List (Option Gate)) (inputs values : List Bool) → evaluate (first ++ second) inputs values ≡ evaluate second (drop (inputs_of first) inputs) (evaluate first inputs values)
evaluate-append [] second inputs values = refl
evaluate-append (None ∷ first) second inputs values =
    evaluate-append first second (drop 1 inputs) (values ++ value_at inputs 0 ∷ [])
    ∙ ap (λ xs. evaluate second xs (evaluate first (drop 1 inputs) (values ++ value_at inputs 0 ∷ []))) (drop-drop (inputs_of first) 1 inputs)
evaluate-append (Some g ∷ first) second inputs values =
    evaluate-append first second inputs (values ++ gate_value (value_at values) g ∷ [])
    ∙ ap (λ n. evaluate second (drop n inputs) (evaluate first inputs (values ++ gate_value (value_at values) g ∷ []))) (sym (zero-add (inputs_of first)))

pub inputs_of-append : (first second : List (Option Gate)) → inputs_of (first ++ second) ≡ inputs_of first + inputs_of second
inputs_of-append [] second = omega arith
inputs_of-append (here ∷ first) second = omega (arith, inputs_of-append first second)

-- a node's value rests on the nodes through it alone
pub literal_value_in-take : (nodes : List (Option Gate)) (inputs : List Bool) (k : ℕ) (l : Lit) → l.var < k → k ≤ length nodes → literal_value_in (take k nodes) inputs l ≡ literal_value_in nodes inputs l
literal_value_in-take nodes inputs k l h le =
    let first : List Bool = node_values (take k nodes) inputs in
    let split : node_values nodes inputs ≡ evaluate (drop k nodes) (drop (inputs_of (take k nodes)) inputs) first =
    ap (λ xs. node_values xs inputs) (sym (take-append-drop k nodes)) ∙ evaluate-append (take k nodes) (drop k nodes) inputs [] in
    let long : length first ≡ k = length-evaluate (take k nodes) inputs [] ∙ omega (arith, length-take-le k nodes le) in
    let same : value_at first l.var ≡ value_at (node_values nodes inputs) l.var =
    sym (ap (λ xs. value_at xs l.var) split ∙ get_or-evaluate (drop k nodes) (drop (inputs_of (take k nodes)) inputs) first l.var false (omega arith)) in
    ap (λ (b : Bool). literal_value (λ (_ : ℕ). b) l) same

pub inputs_of-take : (nodes : List (Option Gate)) (k : ℕ) → inputs_of (take k nodes) ≤ inputs_of nodes
inputs_of-take nodes k =
    let split : inputs_of (take k nodes ++ drop k nodes) ≡ inputs_of nodes = ap inputs_of (take-append-drop k nodes) in
    omega (arith, inputs_of-append (take k nodes) (drop k nodes))

pub length-node_values : (nodes : List (Option Gate)) (inputs : List Bool) → length (node_values nodes inputs) ≡ length nodes
length-node_values nodes inputs = length-evaluate nodes inputs [] ∙ zero-add (length nodes)

-- the nodes through one have a value for it
pub within_first : (nodes : List (Option Gate)) (inputs : List Bool) (n : ℕ) → n < length nodes → n < length (node_values (take (n + 1) nodes) inputs)
within_first nodes inputs n h = omega (arith, length-node_values (take (n + 1) nodes) inputs, length-take-le (n + 1) nodes (omega arith))
