-- The problem that stands for a term.
use Rattle.std.specs.Prelude.{◌≡◌, ℕ, ◌+◌, ◌<◌, Bool as Truth, true, false, List, [], ◌∷◌, ◌++◌, map, length, drop, get_or, replicate, slice_get, Option, None, Some, zero, suc}
use Rattle.std.specs.List.{AllZip}
use Rattle.std.proofs.Common.{refl, sym, ap, ◌∙◌, arith, subst, length-append}
use Rattle.std.proofs.lemmas.List.{length-map, length-replicate}
use Rattle.std.proofs.Math.Seq.{get_or-drop}
use Rattle.std.proofs.lemmas.Slice.Zip.{AllZip-long}
use Rattle.uc_circuit.specs.declared.gate.Gate.{Gate}
use Rattle.uc_circuit.specs.declared.literal.Lit.{Lit}
use Rattle.uc_circuit.specs.Circuits.{IsOrdered, AreValues, inputs_of, input_values, node_values, literal_value_in, value_at}
use Rattle.uc_circuit.proofs.Evaluated.{evaluates_all}
use Rattle.uc_circuit.proofs.Evaluation.{inputs_of-append}
use Rattle.uc_values.specs.Values.{truth_of}
use Rattle.uc_values.specs.declared.value.Value.TheVariants.{Bool as truth}
use Rattle.uc_ops.specs.declared.model.Model.{Model}
use Rattle.uc_ops.specs.declared.node.Node.{Node}
use Rattle.uc_terms.specs.Values.{value}
use Rattle.uc_circuit.specs.declared.signal.Signal.{Signal}
use Rattle.uc_circuit.specs.declared.signal.Signal.TheVariants.{Constant, Of}
use Rattle.uc_circuit.specs.Building.{Building, Obeys, nodes_of, size}
use Rattle.uc_log.specs.declared.atom.Atom.{Atom}
use Rattle.uc_log.specs.declared.atom.Atom.TheVariants.{Free, Bit, Le, Eq}
use Rattle.uc_log.specs.Atoms.{Agrees, atom_truth}
use Rattle.uc_log.specs.Problems.{Question}
use Rattle.uc_blast.specs.Blasting.{HasInputs, constant, StandsFor, constant_question}
use Rattle.uc_blast.specs.Walk.{AgreesWith, IsGoal, IsBlasted}

gates-inputs : (gates : List Gate) → inputs_of (map (λ g. Some g) gates) ≡ 0
gates-inputs [] = refl
gates-inputs (g ∷ gates) = omega (arith, gates-inputs gates)

none-inputs : (n : ℕ) → inputs_of (replicate n None) ≡ n
none-inputs zero = refl
none-inputs (suc n) = omega (arith, none-inputs n)

pub inputs-count : (b : Building) → inputs_of (nodes_of b) ≡ b.inputs
inputs-count b =
    inputs_of-append (replicate b.inputs None) (map (λ g. Some g) b.gates)
    ∙ omega (arith, none-inputs b.inputs, gates-inputs b.gates)

pub nodes-count : (b : Building) → length (nodes_of b) ≡ size b
nodes-count b =
    length-append (replicate b.inputs None) (map (λ g. Some g) b.gates)
    ∙ omega (arith, length-replicate {A = Option Gate} b.inputs None, length-map b.gates (λ g. Some g))

gate-in : (gates : List Gate) (k : ℕ) (g : Gate) → slice_get gates k ≡ Some g → get_or (map (λ x. Some x) gates) k None ≡ Some g
gate-in [] k g h = absurd (cc)
gate-in (x ∷ gates) zero g h = h
gate-in (x ∷ gates) (suc k) g h = gate-in gates k g h

gate-at : (n : ℕ) (gates : List Gate) (k : ℕ) (g : Gate) → slice_get gates k ≡ Some g → get_or (replicate n None ++ map (λ x. Some x) gates) (n + k) None ≡ Some g
gate-at zero gates k g h = ap (λ i. get_or (map (λ x. Some x) gates) i None) (omega arith) ∙ gate-in gates k g h
gate-at (suc n) gates k g h =
    let next : suc n + k ≡ suc (n + k) = omega arith in
    ap (λ i. get_or (replicate (suc n) None ++ map (λ x. Some x) gates) i None) next ∙ gate-at n gates k g h

input-at : (n : ℕ) (rest : List (Option Gate)) (values : List Truth) (i : ℕ) → i < n → value_at (input_values (replicate n None ++ rest) values) i ≡ value_at values i
input-at zero rest values i h = absurd (omega arith)
input-at (suc n) rest values zero h = refl
input-at (suc n) rest values (suc i) h =
    let next : 1 + i ≡ suc i = omega arith in
    input-at n rest (drop 1 values) i (omega arith) ∙ get_or-drop 1 values i false ∙ ap (λ k. get_or values k false) next

zip-at : (m : Model) (nodes : List Node) (atoms : List Atom) (inputs : List Truth) → AllZip (Agrees m nodes) atoms inputs → (i : ℕ) (a : Atom) → slice_get atoms i ≡ Some a → Agrees m nodes a (value_at inputs i)
zip-at m nodes [] inputs h i a e = absurd (cc)
zip-at m nodes (x ∷ atoms) [] h i a e = absurd h
zip-at m nodes (x ∷ atoms) (b ∷ inputs) h zero a e = let same : x ≡ a = cc in subst (λ y. Agrees m nodes y b) same h.0
zip-at m nodes (x ∷ atoms) (b ∷ inputs) h (suc i) a e = zip-at m nodes atoms inputs h.1 i a e

atom-within : (atoms : List Atom) (i : ℕ) (a : Atom) → slice_get atoms i ≡ Some a → i < length atoms
atom-within [] i a h = absurd (cc)
atom-within (x ∷ atoms) zero a h = omega arith
atom-within (x ∷ atoms) (suc i) a h = omega (arith, atom-within atoms i a h)

-- what the values of all nodes are, where the inputs agree with a model
record IsValuation (m : Model) (nodes : List Node) (atoms : List Atom) (b : Building) (v : ℕ → Truth) : Type 0 where
  agrees : AgreesWith m nodes atoms v
  obeys : Obeys v b

valuation : (m : Model) (nodes : List Node) (atoms : List Atom) (b : Building) (inputs : List Truth) → IsOrdered (nodes_of b) → b.inputs ≡ length atoms → AllZip (Agrees m nodes) atoms inputs
    → IsValuation m nodes atoms b (value_at (node_values (nodes_of b) inputs))
valuation m nodes atoms b inputs ordered e h =
    let count : length inputs ≡ inputs_of (nodes_of b) = AllZip-long (Agrees m nodes) atoms inputs h ∙ sym e ∙ sym (inputs-count b) in
    let all : AreValues (nodes_of b) inputs (node_values (nodes_of b) inputs) = evaluates_all (nodes_of b) inputs ordered count in
    let values = node_values (nodes_of b) inputs in
    record {
      agrees = λ i a is.
          let at : value_at inputs i ≡ value_at values i =
          ap (λ xs. value_at xs i) (sym all.given) ∙ input-at b.inputs (map (λ g. Some g) b.gates) values i (omega (arith, atom-within atoms i a is, e)) in
          subst (Agrees m nodes a) at (zip-at m nodes atoms inputs h i a is);
      obeys = λ k g is. all.gates (b.inputs + k) g (gate-at b.inputs b.gates k g is);
    }

-- each model gives inputs that agree with it
abbrev agreeing : Model → List Node → List Atom → List Truth
agreeing m nodes atoms = map (atom_truth m nodes) atoms

atom-agrees : (m : Model) (nodes : List Node) (a : Atom) → Agrees m nodes a (atom_truth m nodes a)
atom-agrees m nodes Free = tt
atom-agrees m nodes (Bit t k) = refl
atom-agrees m nodes (Le f) = refl
atom-agrees m nodes (Eq s t) = refl

all-agree : (m : Model) (nodes : List Node) (atoms : List Atom) → AllZip (Agrees m nodes) atoms (agreeing m nodes atoms)
all-agree m nodes [] = tt
all-agree m nodes (a ∷ atoms) = (atom-agrees m nodes a, all-agree m nodes atoms)

stands-by : (nodes : List Node) (t : ℕ) (atoms : List Atom) (b : Building) (goal : Lit) → IsOrdered (nodes_of b) → b.inputs ≡ length atoms → IsGoal nodes t atoms b (Of goal)
    → StandsFor nodes t (record { circuit = nodes_of b; goal = goal; atoms = atoms })
stands-by nodes t atoms b goal ordered e g =
    let same : (m : Model) (inputs : List Truth) → AllZip (Agrees m nodes) atoms inputs → value m nodes t ≡ truth (literal_value_in (nodes_of b) inputs goal) = λ m inputs h.
    let v = valuation m nodes atoms b inputs ordered e h in
    sym (g.value m (value_at (node_values (nodes_of b) inputs)) v.agrees v.obeys) in
    record {
      there = λ m is.
          let inputs = agreeing m nodes atoms in
          let agree = all-agree m nodes atoms in
          (inputs, record { agree = agree; goal = sym (ap truth_of (same m inputs agree)) ∙ is.holds });
      same = same;
    }

-- the problem of a literal
pub goal-within : (nodes : List Node) (t : ℕ) (atoms : List Atom) (circuit : List (Option Gate)) (s : Signal) (goal : Lit) → IsBlasted nodes t atoms circuit s → s ≡ Of goal → goal.var < length circuit
goal-within nodes t atoms circuit s goal x is =
    let g : IsGoal nodes t atoms x.b (Of goal) = subst (IsGoal nodes t atoms x.b) is x.goal in
    omega (arith, g.below, nodes-count x.b, ap (length {A = Option Gate}) x.is)

pub atoms-count : (nodes : List Node) (t : ℕ) (atoms : List Atom) (circuit : List (Option Gate)) (s : Signal) → IsBlasted nodes t atoms circuit s → length atoms ≡ inputs_of circuit
atoms-count nodes t atoms circuit s x = sym x.inputs ∙ sym (inputs-count x.b) ∙ ap inputs_of (sym x.is)

pub stands : (nodes : List Node) (t : ℕ) (atoms items : List Atom) (circuit : List (Option Gate)) (s : Signal) (goal : Lit) (q : Question) → IsBlasted nodes t atoms circuit s → s ≡ Of goal → items ≡ atoms
    → q ≡ record { circuit = circuit; goal = goal; atoms = items } → StandsFor nodes t q
stands nodes t atoms items circuit s goal q x is same eq =
    let built = stands-by nodes t atoms x.b goal (subst IsOrdered x.is x.ordered) x.inputs (subst (IsGoal nodes t atoms x.b) is x.goal) in
    let with_items : StandsFor nodes t (record { circuit = circuit; goal = goal; atoms = items }) =
    subst (λ xs. StandsFor nodes t (record { circuit = circuit; goal = goal; atoms = xs })) (sym same) (subst (λ c. StandsFor nodes t (record { circuit = c; goal = goal; atoms = atoms })) (sym x.is) built) in
    subst (StandsFor nodes t) (sym eq) with_items

-- a goal that is a constant
pub constant-value : (nodes : List Node) (t : ℕ) (atoms : List Atom) (circuit : List (Option Gate)) (s : Signal) (c : Truth) → IsBlasted nodes t atoms circuit s → s ≡ Constant c
    → (m : Model) → value m nodes t ≡ truth c
constant-value nodes t atoms circuit s c x is m =
    let h : IsGoal nodes t atoms x.b (Constant c) = subst (IsGoal nodes t atoms x.b) is x.goal in
    let v = valuation m nodes atoms x.b (agreeing m nodes atoms) (subst IsOrdered x.is x.ordered) x.inputs (all-agree m nodes atoms) in
    sym (h.value m (value_at (node_values (nodes_of x.b) (agreeing m nodes atoms))) v.agrees v.obeys)

constant-literal : (c b : Truth) → literal_value_in (constant_question c).circuit (b ∷ []) (constant_question c).goal ≡ c
constant-literal true true = refl
constant-literal true false = refl
constant-literal false true = refl
constant-literal false false = refl

constant-same : (m : Model) (nodes : List Node) (c : Truth) (inputs : List Truth) → AllZip (Agrees m nodes) (constant_question c).atoms inputs
    → c ≡ literal_value_in (constant_question c).circuit inputs (constant_question c).goal
constant-same m nodes c [] h = absurd h
constant-same m nodes c (b ∷ []) h = sym (constant-literal c b)
constant-same m nodes c (b ∷ d ∷ rest) h = absurd h.1

pub constant-stands : (nodes : List Node) (t : ℕ) (c : Truth) (q : Question) → ((m : Model) → value m nodes t ≡ truth c) → q ≡ constant_question c → StandsFor nodes t q
constant-stands nodes t c q e eq =
    subst (StandsFor nodes t) (sym eq) (record {
      there = λ m is. (false ∷ [], record { agree = (tt, tt); goal = constant-literal c false ∙ sym (ap truth_of (e m)) ∙ is.holds });
      same = λ m inputs h. e m ∙ ap truth (constant-same m nodes c inputs h);
    })

pub constant-inputs : (nodes : List Node) (t : ℕ) (c : Truth) (q : Question) → ((m : Model) → value m nodes t ≡ truth c) → q ≡ constant_question c → HasInputs nodes t q
constant-inputs nodes t c q e eq = constant c e eq
