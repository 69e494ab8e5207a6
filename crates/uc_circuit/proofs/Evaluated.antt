-- The values of a circuit's nodes are what the inputs and the functions of the gates make them.
use Rattle.std.proofs.Common.{◌≡◌, ℕ, zero, suc, ◌+◌, ◌<◌, Bool, false, not, List, [], ◌∷◌, ◌++◌, Option, None, Some, cond, length, get_or, drop, refl, sym, ◌∙◌, ap, subst, arith}
use Rattle.std.specs.Prelude.{MatchOption}
use Rattle.std.proofs.Math.Bool.{◌&&◌}
use Rattle.std.proofs.lemmas.List.{drop-drop, get_or_append_left, get_or-drop, get_or_push, length_push}
use Rattle.uc_circuit.specs.declared.literal.Lit.{Lit}
use Rattle.uc_circuit.specs.declared.gate.Gate.{Gate}
use Rattle.uc_circuit.specs.declared.gate.Gate.TheVariants.{And, Xor, Mux}
use Rattle.uc_circuit.specs.Literals.{literal_value}
use Rattle.uc_circuit.specs.Gates.{gate_value, OperandsBelow}
use Rattle.uc_circuit.specs.Circuits.{IsOrdered, evaluate, input_values, inputs_of, value_at}
use Rattle.uc_circuit.specs.Propagation.{EvaluatesAll}
use Rattle.uc_circuit.proofs.Evaluation.{get_or-evaluate, length-node_values}

-- the operands of a gate in an ordered circuit
ordered_at : (nodes : List (Option Gate)) → IsOrdered nodes → (n : ℕ) (g : Gate) → n < length nodes → get_or nodes n None ≡ Some g → OperandsBelow n g
ordered_at nodes ordered n g h is =
    let at : MatchOption (get_or nodes n None) (Unit {0}) (OperandsBelow n) = ordered n h in
    subst (λ (o : Option Gate). MatchOption o (Unit {0}) (OperandsBelow n)) is at

inside : (nodes : List (Option Gate)) (n : ℕ) (g : Gate) → get_or nodes n None ≡ Some g → n < length nodes
inside [] n g is = absurd (cc)
inside (_ ∷ nodes) zero g is = omega arith
inside (_ ∷ nodes) (suc n) g is = let h : n < length nodes = inside nodes n g is in omega arith

pub operands_below : (nodes : List (Option Gate)) → IsOrdered nodes → (n : ℕ) (g : Gate) → get_or nodes n None ≡ Some g → OperandsBelow n g
operands_below nodes ordered n g is = ordered_at nodes ordered n g (inside nodes n g is) is

-- a gate's function reads its operands alone
literal_value-agree : (v w : ℕ → Bool) (l : Lit) → v l.var ≡ w l.var → literal_value v l ≡ literal_value w l
literal_value-agree v w l same = ap (λ b. cond l.neg (not b) b) same

pub gate_value-agree : (v w : ℕ → Bool) (n : ℕ) (g : Gate) → OperandsBelow n g → ((m : ℕ) → m < n → v m ≡ w m) → gate_value v g ≡ gate_value w g
gate_value-agree v w n (And a b) below agree =
    ap (λ x. x && literal_value v b) (literal_value-agree v w a (agree a.var below.0))
    ∙ ap (λ x. literal_value w a && x) (literal_value-agree v w b (agree b.var below.1))
gate_value-agree v w n (Xor a b) below agree =
    ap (λ x. cond x (not (literal_value v b)) (literal_value v b)) (literal_value-agree v w a (agree a.var below.0))
    ∙ ap (λ x. cond (literal_value w a) (not x) x) (literal_value-agree v w b (agree b.var below.1))
gate_value-agree v w n (Mux c t e) below agree =
    ap (λ x. cond x (literal_value v t) (literal_value v e)) (literal_value-agree v w c (agree c.var below.0))
    ∙ ap (λ x. cond (literal_value w c) x (literal_value v e)) (literal_value-agree v w t (agree t.var below.1))
    ∙ ap (λ x. cond (literal_value w c) (literal_value w t) x) (literal_value-agree v w e (agree e.var below.2))

-- each gate has the value of its function
gate_evaluated : (nodes : List (Option Gate)) (inputs values : List Bool) (i n : ℕ) (g : Gate) → n ≡ length values + i → OperandsBelow n g → get_or nodes i None ≡ Some g → value_at (evaluate nodes inputs values) n ≡ gate_value (value_at (evaluate nodes inputs values)) g
gate_evaluated [] inputs values i n g at below is = absurd (cc)
gate_evaluated (None ∷ nodes) inputs values zero n g at below is = absurd (cc)
gate_evaluated (None ∷ nodes) inputs values (suc i) n g at below is =
    gate_evaluated nodes (drop 1 inputs) (values ++ value_at inputs 0 ∷ []) i n g (omega (arith, length_push values (value_at inputs 0))) below is
gate_evaluated (Some f ∷ nodes) inputs values (suc i) n g at below is =
    gate_evaluated nodes inputs (values ++ gate_value (value_at values) f ∷ []) i n g (omega (arith, length_push values (gate_value (value_at values) f))) below is
gate_evaluated (Some f ∷ nodes) inputs values zero n g at below is =
    let more : List Bool = values ++ gate_value (value_at values) f ∷ [] in
    let all : List Bool = evaluate nodes inputs more in
    let same : f ≡ g = cc in
    let long : length more ≡ length values + 1 = length_push values (gate_value (value_at values) f) in
    let here : value_at all n ≡ gate_value (value_at values) f =
    get_or-evaluate nodes inputs more n false (omega arith) ∙ get_or_push values (gate_value (value_at values) f) false n (omega arith) in
    let before : (m : ℕ) → m < n → value_at values m ≡ value_at all m =
    λ m h. sym (get_or-evaluate nodes inputs more m false (omega arith) ∙ get_or_append_left values (gate_value (value_at values) f ∷ []) false m (omega arith)) in
    here ∙ ap (gate_value (value_at values)) same ∙ gate_value-agree (value_at values) (value_at all) n g below before

-- each input has the value that is given
inputs_evaluated : (nodes : List (Option Gate)) (inputs values : List Bool) → length inputs ≡ inputs_of nodes → input_values nodes (drop (length values) (evaluate nodes inputs values)) ≡ inputs
inputs_evaluated [] [] values long = refl
inputs_evaluated [] (b ∷ inputs) values long = absurd (omega arith)
inputs_evaluated (None ∷ nodes) [] values long = absurd (omega arith)
inputs_evaluated (None ∷ nodes) (b ∷ inputs) values long =
    let more : List Bool = values ++ b ∷ [] in
    let all : List Bool = evaluate nodes inputs more in
    let one : length more ≡ length values + 1 = length_push values b in
    let here : value_at (drop (length values) all) 0 ≡ b =
    get_or-drop (length values) all 0 false ∙ ap (λ k. get_or all k false) (omega arith)
    ∙ get_or-evaluate nodes inputs more (length values) false (omega arith) ∙ get_or_push values b false (length values) refl in
    let rest : input_values nodes (drop 1 (drop (length values) all)) ≡ inputs =
    ap (input_values nodes) (drop-drop 1 (length values) all ∙ ap (λ k. drop k all) (sym one)) ∙ inputs_evaluated nodes inputs more (omega arith) in
    ap (λ x. x ∷ input_values nodes (drop 1 (drop (length values) all))) here ∙ ap (λ xs. b ∷ xs) rest
inputs_evaluated (Some g ∷ nodes) inputs values long =
    let more : List Bool = values ++ gate_value (value_at values) g ∷ [] in
    let all : List Bool = evaluate nodes inputs more in
    let one : length more ≡ length values + 1 = length_push values (gate_value (value_at values) g) in
    ap (input_values nodes) (drop-drop 1 (length values) all ∙ ap (λ k. drop k all) (sym one)) ∙ inputs_evaluated nodes inputs more (omega arith)

pub evaluates_all : EvaluatesAll
evaluates_all nodes inputs ordered long = record {
  each = length-node_values nodes inputs;
  given = inputs_evaluated nodes inputs [] long;
  gates = λ n g is. gate_evaluated nodes inputs [] n n g (omega arith) (operands_below nodes ordered n g is) is;
}
