-- Where the inputs have values and each clause is settled, each clause is true.
use Rattle.std.proofs.Common.{◌≡◌, ℕ, ◌+◌, ◌<◌, ◌⊎◌, inl, inr, Bool, true, false, not, List, [], ◌∷◌, ◌++◌, Option, None, Some, length, get_or, refl, sym, ◌∙◌, ap, subst, arith, zero-add}
use Rattle.std.specs.Prelude.{All, Contains, MatchOption, if◌then◌else◌}
use Rattle.std.specs.Option.{unwrap_or}
use Rattle.std.proofs.lemmas.Bool.{cases_eq}
use Rattle.std.proofs.lemmas.List.{append-nil, length_push, length-map, get_or-map, get_or_append_left, get_or_push}
use Rattle.std.proofs.lemmas.List.Elements.{All-nil, All-cons, All-append, All-head, All-tail, All-contains, All-weaker, Contains-get_or, Contains-append_left, Contains-append_right, All-contains_itself}
use Rattle.uc_circuit.specs.declared.literal.Lit.{Lit}
use Rattle.uc_circuit.specs.declared.gate.Gate.{Gate}
use Rattle.uc_circuit.specs.Clauses.{IsTrueClause, Satisfies}
use Rattle.uc_circuit.specs.Gates.{clauses_of_gate, OperandsBelow}
use Rattle.uc_circuit.specs.Circuits.{IsOrdered, circuit_clauses, node_clauses}
use Rattle.uc_circuit.specs.Values.{IsFalse, IsFalsified, IsSettled}
use Rattle.uc_circuit.proofs.Settling.{HasValue, value_or_none, ends_with_all}
use Rattle.uc_ops.specs.declared.node.Node.{Node}
use Rattle.uc_log.specs.declared.entry.Entry.{Entry}
use Rattle.uc_log.specs.declared.entry.Entry.TheVariants.{Gate as GateEntry, Atom as AtomEntry, Learnt}
use Rattle.uc_log.specs.Problems.{Question, IsQuestion}
use Rattle.uc_log.specs.Refutes.{AllWithin}
use Rattle.uc_log.specs.Meters.{IsValidFor}
use Rattle.uc_log.specs.Entries.{Known, known_of, add, known_after, Meets, AllMeet}
use Rattle.uc_log.proofs.Circuits.{clauses_from-append}
use Rattle.uc_learner.specs.declared.state.State.{State}
use Rattle.uc_learner.specs.ClauseStates.{AllSettled, ConflictIs}
use Rattle.uc_learner.specs.Opened.{known_now, HasQuestion}
use Rattle.uc_learner.specs.Learners.{flag_of, input_flags, valuation}
use Rattle.uc_learner.specs.Moves.{Descended}
use Rattle.uc_learner.specs.Answered.{Holds}
use Rattle.uc_learner.proofs.Answering.{bit_or_other}

-- the operands of each gate stand before it, and its clauses are among the clauses
pub record HasGates (k : Known) : Type 0 where
  pub ordered : IsOrdered k.circuit
  pub held : All (Contains k.clauses) (circuit_clauses k.circuit)

gates_first : (q : Question) → IsQuestion q → HasGates (known_of q)
gates_first q fine =
    let goal : List (List Lit) = (q.goal ∷ []) ∷ [] in
    record {
      ordered = fine.circuit.ordered;
      held =
          All-weaker (Contains (circuit_clauses q.circuit)) (Contains (circuit_clauses q.circuit ++ goal)) (λ c has. Contains-append_left (circuit_clauses q.circuit) goal c has)
          (circuit_clauses q.circuit) (All-contains_itself (circuit_clauses q.circuit));
    }

-- a node more whose operands stand before it
ordered_push :
    (nodes : List (Option Gate)) (node : Option Gate) → IsOrdered nodes → MatchOption node (Unit {0}) (OperandsBelow (length nodes)) → IsOrdered (nodes ++ node ∷ [])
ordered_push nodes node ordered below n h =
    elim (cases_eq n (length nodes)) [
      | inl same ↦
          let read : get_or (nodes ++ node ∷ []) n None ≡ node = get_or_push nodes node None n (sym same) in
          subst (λ (o : Option Gate). MatchOption o (Unit {0}) (OperandsBelow n)) (sym read) (subst (λ (k : ℕ). MatchOption node (Unit {0}) (OperandsBelow k)) (sym same) below)
      | inr ne ↦
          let h' : n < length nodes = omega (arith, length_push nodes node) in
          let read : get_or (nodes ++ node ∷ []) n None ≡ get_or nodes n None = get_or_append_left nodes (node ∷ []) None n h' in
          subst (λ (o : Option Gate). MatchOption o (Unit {0}) (OperandsBelow n)) (sym read) (ordered n h')
    ]

clauses_push : (nodes : List (Option Gate)) (node : Option Gate) → circuit_clauses (nodes ++ node ∷ []) ≡ circuit_clauses nodes ++ node_clauses (length nodes) node
clauses_push nodes node =
    clauses_from-append 0 nodes (node ∷ [])
    ∙ ap (λ cs. circuit_clauses nodes ++ cs) (append-nil (node_clauses (0 + length nodes) node) ∙ ap (λ k. node_clauses k node) (zero-add (length nodes)))

gates_push :
    (nodes : List (Option Gate)) (node : Option Gate) (clauses more : List (List Lit))
    → All (Contains clauses) (circuit_clauses nodes) → All (Contains more) (node_clauses (length nodes) node)
    → All (Contains (clauses ++ more)) (circuit_clauses (nodes ++ node ∷ []))
gates_push nodes node clauses more held here =
    subst (λ (cs : List (List Lit)). All (Contains (clauses ++ more)) cs) (sym (clauses_push nodes node))
    (All-append (Contains (clauses ++ more)) (circuit_clauses nodes) (node_clauses (length nodes) node)
    (All-weaker (Contains clauses) (Contains (clauses ++ more)) (λ c has. Contains-append_left clauses more c has) (circuit_clauses nodes) held)
    (All-weaker (Contains more) (Contains (clauses ++ more)) (λ c has. Contains-append_right clauses more c has) (node_clauses (length nodes) node) here))

gates_add : (nodes : List Node) (k : Known) (e : Entry) → Meets nodes k e → HasGates k → HasGates (add k e)
gates_add nodes k (GateEntry g) meets gates = record {
  ordered = ordered_push k.circuit (Some g) gates.ordered meets;
  held = gates_push k.circuit (Some g) k.clauses (clauses_of_gate (length k.circuit) g) gates.held (All-contains_itself (clauses_of_gate (length k.circuit) g));
}
gates_add nodes k (AtomEntry a) meets gates = record {
  ordered = ordered_push k.circuit None gates.ordered tt;
  held = gates_push k.circuit None k.clauses [] gates.held (λ i d h. absurd (omega arith));
}
gates_add nodes k (Learnt c hints) meets gates = record {
  ordered = subst IsOrdered (sym (append-nil k.circuit)) gates.ordered;
  held =
      subst (λ (ns : List (Option Gate)). All (Contains (k.clauses ++ c ∷ [])) (circuit_clauses ns)) (sym (append-nil k.circuit))
      (All-weaker (Contains k.clauses) (Contains (k.clauses ++ c ∷ [])) (λ x has. Contains-append_left k.clauses (c ∷ []) x has) (circuit_clauses k.circuit) gates.held);
}

gates_after : (nodes : List Node) (k : Known) (es : List Entry) → AllMeet nodes k es → HasGates k → HasGates (known_after k es)
gates_after nodes k [] all gates = gates
gates_after nodes k (e ∷ es) all gates = gates_after nodes (add k e) es all.1 (gates_add nodes k e all.0 gates)

gates_now : (nodes : List Node) (opened : Option Question) (log : List Entry) → IsValidFor nodes opened log → HasQuestion opened → HasGates (known_now opened log)
gates_now nodes None log valid fine = absurd valid
gates_now nodes (Some q) log valid fine = gates_after nodes (known_of q) log valid.all_meet (gates_first q (fine q refl))

-- a literal whose variable has the value that the sign asks for is true
true_for : (neg b : Bool) → b ≡ not neg → (if neg then not b else b) ≡ true
true_for true b is = ap not is
true_for false b is = is

-- a clause whose literals have values is false or true
false_or_true : (v : List (Option Bool)) (c : List Lit) → All (λ l. HasValue v l.var) c → IsFalsified v c ⊎ IsTrueClause (valuation v) c
false_or_true v [] all = inl (All-nil (IsFalse v))
false_or_true v (l ∷ c) all =
    let here : HasValue v l.var = All-head (λ (k : Lit). HasValue v k.var) l c all in
    elim (bit_or_other here.0 l.neg) [
      | inr other ↦ inr (record {
        literal = l;
        there = Contains-get_or (l ∷ c) 0 l (omega arith);
        is_true = true_for l.neg (valuation v l.var) (ap (λ o. unwrap_or o false) here.1 ∙ other);
      })
      | inl same ↦ elim (false_or_true v c (All-tail (λ (k : Lit). HasValue v k.var) l c all)) [
        | inl f ↦ inl (All-cons (IsFalse v) l c (here.1 ∙ ap (λ b. Some b) same) f)
        | inr t ↦ inr (record { literal = t.literal; there = Contains-append_right (l ∷ []) c t.literal t.there; is_true = t.is_true })
      ]
    ]

has_value : (v : List (Option Bool)) (x : ℕ) → (get_or v x None ≡ None → ⊥) → HasValue v x
has_value v x some =
    elim (value_or_none v x) [
      | inl has ↦ has
      | inr none ↦ absurd (some none)
    ]

pub all_true :
    (k : Known) (v : List (Option Bool)) → HasGates k → AllSettled k.clauses v
    → ((x : ℕ) → get_or (input_flags k.circuit) x false ≡ true → get_or v x None ≡ None → ⊥)
    → AllWithin (length k.circuit) k.clauses
    → Satisfies (valuation v) k.clauses
all_true k v gates settled inputs within =
    let gate_settled : All (IsSettled v) (circuit_clauses k.circuit) =
    All-weaker (Contains k.clauses) (IsSettled v) (λ c has. All-contains (IsSettled v) k.clauses c settled has) (circuit_clauses k.circuit) gates.held in
    let valued : (x : ℕ) → x < length k.circuit → HasValue v x =
    λ x h. has_value v x (ends_with_all k.circuit v gates.ordered
    (λ n inside node none. inputs n (get_or-map flag_of k.circuit n None false inside ∙ ap flag_of node) none) gate_settled x h) in
    λ i d h. elim (false_or_true v (get_or k.clauses i d) (λ j e l. valued _ (within i d h j e l))) [
      | inl f ↦ absurd ((settled i d h).not_false f)
      | inr t ↦ t
    ]

-- the answer of a search that found no conflict
pub candidate_true :
    (s mid : State) (nodes : List Node) (opened : Option Question) (log : List Entry) (r : Option ℕ)
    → r ≡ None → Descended s mid r → Holds s (known_now opened log) → IsValidFor nodes opened log → HasQuestion opened
    → Satisfies (valuation mid.values.items) (known_now opened log).clauses
candidate_true s mid nodes opened log r is descended holds valid fine =
    let k : Known = known_now opened log in
    let clauses : mid.clauses.items ≡ k.clauses = descended.onward.clauses ∙ holds.clauses in
    let inputs : mid.inputs.items ≡ input_flags k.circuit = descended.onward.inputs ∙ holds.inputs in
    let many : length mid.inputs.items ≡ length k.circuit = ap length inputs ∙ length-map k.circuit flag_of in
    let settled : AllSettled mid.clauses.items mid.values.items = subst (ConflictIs mid) is descended.conflict in
    let complete : (x : ℕ) → get_or mid.inputs.items x false ≡ true → get_or mid.values.items x None ≡ None → ⊥ =
    subst (λ (o : Option ℕ). MatchOption o ((x : ℕ) → get_or mid.inputs.items x false ≡ true → get_or mid.values.items x None ≡ None → ⊥) (λ _. Unit {0})) is descended.complete in
    let within : AllWithin (length mid.inputs.items) mid.clauses.items = descended.onward.ready.sound.within in
    all_true k mid.values.items (gates_now nodes opened log valid fine)
    (subst (λ (c : List (List Lit)). AllSettled c mid.values.items) clauses settled)
    (subst (λ (i : List Bool). (x : ℕ) → get_or i x false ≡ true → get_or mid.values.items x None ≡ None → ⊥) inputs complete)
    (subst (λ (c : List (List Lit)). AllWithin (length k.circuit) c) clauses (subst (λ n. AllWithin n mid.clauses.items) many within))
