-- From the values of the inputs, unit propagation leads to the values of all nodes.
use Rattle.std.proofs.Common.{◌≡◌, ℕ, suc, ◌+◌, Bool, false, List, [], ◌∷◌, ◌++◌, Option, None, Some, length, get_or, drop, map, set, refl, sym, ◌∙◌, ap, subst, arith, zero-add}
use Rattle.std.specs.Prelude.{All, Contains}
use Rattle.std.proofs.Math.Bool.{not-not}
use Rattle.std.proofs.lemmas.List.{append-nil, append_assoc, get_or_append_left, get_or_at, get_or-map, length-map, length_push, map_push, set_at}
use Rattle.std.proofs.lemmas.List.Elements.{All-contains, All-contains_itself, Contains-get_or, Contains-append_left, Contains-append_right}
use Rattle.uc_circuit.specs.declared.literal.Lit.{Lit}
use Rattle.uc_circuit.specs.declared.gate.Gate.{Gate}
use Rattle.uc_circuit.specs.Gates.{clauses_of_gate, gate_value, OperandsBelow}
use Rattle.uc_circuit.specs.Values.{assign}
use Rattle.uc_circuit.specs.Circuits.{circuit_clauses, clauses_from, evaluate, value_at}
use Rattle.uc_circuit.specs.Propagation.{Propagates, done, step, given_values, InputsReachAll}
use Rattle.uc_circuit.proofs.Evaluated.{operands_below}
use Rattle.uc_circuit.proofs.Forcing.{GivesValue, OperandsKnown, gate_gives, literal_for}

-- what holds of each element of two lists, one after the other, holds of each element of either
pub All-left : {X : Type 0} (P : X → Type 0) (xs ys : List X) → All P (xs ++ ys) → All P xs
All-left P xs ys all k d h = All-contains P (xs ++ ys) (get_or xs k d) all (Contains-append_left xs ys (get_or xs k d) (Contains-get_or xs k d h))

pub All-right : {X : Type 0} (P : X → Type 0) (xs ys : List X) → All P (xs ++ ys) → All P ys
All-right P xs ys all k d h = All-contains P (xs ++ ys) (get_or ys k d) all (Contains-append_right xs ys (get_or ys k d) (Contains-get_or ys k d h))

-- these variables have values
abbrev pub known : List Bool → List (Option Bool)
known values = map (λ b. Some b) values

-- one more of them
known-push : (values : List Bool) (b : Bool) (rest : List (Option Bool)) → known values ++ Some b ∷ rest ≡ known (values ++ b ∷ []) ++ rest
known-push values b rest =
    sym (append_assoc (known values) (Some b ∷ []) rest) ∙ ap (λ xs. xs ++ rest) (sym (map_push (λ (x : Bool). Some x) values b))

known_at : (values : List Bool) (rest : List (Option Bool)) → OperandsKnown (value_at values) (known values ++ rest) (length values)
known_at values rest m h =
    get_or_append_left (known values) rest None m (omega (arith, length-map values (λ (b : Bool). Some b)))
    ∙ get_or-map (λ (b : Bool). Some b) values m false None h

-- the operands of the gates among the rest of a circuit stand before them
abbrev pub OrderedFrom : ℕ → List (Option Gate) → Type 0
OrderedFrom n nodes = (i : ℕ) (g : Gate) → get_or nodes i None ≡ Some g → OperandsBelow (n + i) g

ordered_rest : (n : ℕ) (first : Option Gate) (nodes : List (Option Gate)) → OrderedFrom n (first ∷ nodes) → OrderedFrom (n + 1) nodes
ordered_rest n first nodes ordered i g is =
    let same : n + suc i ≡ n + 1 + i = omega arith in
    subst (λ (k : ℕ). OperandsBelow k g) same (ordered (suc i) g is)

reaches :
    (clauses : List (List Lit)) (nodes : List (Option Gate)) (inputs values : List Bool) (n : ℕ)
    → n ≡ length values → OrderedFrom n nodes → All (Contains clauses) (clauses_from n nodes)
    → Propagates clauses (known values ++ given_values nodes inputs) (known (evaluate nodes inputs values))
reaches clauses [] inputs values n long ordered held =
    subst (λ (xs : List (Option Bool)). Propagates clauses xs (known values)) (sym (append-nil (known values))) (done (known values))
reaches clauses (None ∷ nodes) inputs values n long ordered held =
    let b : Bool = value_at inputs 0 in
    subst (λ (xs : List (Option Bool)). Propagates clauses xs (known (evaluate nodes (drop 1 inputs) (values ++ b ∷ []))))
    (sym (known-push values b (given_values nodes (drop 1 inputs))))
    (reaches clauses nodes (drop 1 inputs) (values ++ b ∷ []) (n + 1) (omega (arith, length_push values b)) (ordered_rest n None nodes ordered) held)
reaches clauses (Some g ∷ nodes) inputs values n long ordered held =
    let b : Bool = gate_value (value_at values) g in
    let rest : List (Option Bool) = given_values nodes inputs in
    let now : List (Option Bool) = known values ++ None ∷ rest in
    let last : List (Option Bool) = known (evaluate nodes inputs (values ++ b ∷ [])) in
    let width : length (known values) ≡ n = length-map values (λ (x : Bool). Some x) ∙ sym long in
    let at : OperandsBelow n g = subst (λ (k : ℕ). OperandsBelow k g) (omega arith) (ordered 0 g refl) in
    let operands : OperandsKnown (value_at values) now n = λ m h. known_at values (None ∷ rest) m (omega arith) in
    let gives : GivesValue now (clauses_of_gate n g) n b = gate_gives (value_at values) now n g at operands (get_or_at (known values) None rest None n width) in
    let there : Contains clauses gives.clause =
    All-contains (Contains clauses) (clauses_of_gate n g) gives.clause (All-left (Contains clauses) (clauses_of_gate n g) (clauses_from (n + 1) nodes) held) gives.there in
    let after : assign now (literal_for n b) ≡ known (values ++ b ∷ []) ++ rest =
    ap (λ x. set now n (Some x)) (not-not b) ∙ set_at (known values) None rest (Some b) n width ∙ known-push values b rest in
    let more : Propagates clauses (known (values ++ b ∷ []) ++ rest) last =
    reaches clauses nodes inputs (values ++ b ∷ []) (n + 1) (omega (arith, length_push values b)) (ordered_rest n (Some g) nodes ordered)
    (All-right (Contains clauses) (clauses_of_gate n g) (clauses_from (n + 1) nodes) held) in
    step now last gives.clause (literal_for n b) there gives.forces
    (subst (λ (xs : List (Option Bool)). Propagates clauses xs last) (sym after) more)

pub inputs_reach_all : InputsReachAll
inputs_reach_all nodes inputs ordered long =
    reaches (circuit_clauses nodes) nodes inputs [] 0 refl
    (λ i g is. subst (λ (k : ℕ). OperandsBelow k g) (sym (zero-add i)) (operands_below nodes ordered i g is))
    (All-contains_itself (circuit_clauses nodes))
