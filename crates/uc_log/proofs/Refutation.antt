-- An accepted log has no model.
use Rattle.std.proofs.Common.{◌≡◌, ℕ, suc, ◌+◌, ◌<◌, Bool, List, [], ◌∷◌, ◌++◌, Option, None, Some, length, get_or, refl, sym, ◌∙◌, ap, subst, arith}
use Rattle.std.specs.Prelude.{Contains}
use Rattle.std.specs.List.{AllZip}
use Rattle.std.proofs.lemmas.List.{append-nil, length_push, get_or_append_left, get_or_push}
use Rattle.std.proofs.lemmas.List.Elements.{All-nil, All-cons, All-append, All-push, All-contains, Contains-append_right, Contains-get_or}
use Rattle.uc_circuit.specs.declared.literal.Lit.{Lit}
use Rattle.uc_circuit.specs.declared.gate.Gate.{Gate}
use Rattle.uc_circuit.specs.Literals.{literal_value}
use Rattle.uc_circuit.specs.Clauses.{IsTrueClause, Satisfies}
use Rattle.uc_circuit.specs.Gates.{clauses_of_gate, gate_value, OperandsBelow}
use Rattle.uc_circuit.specs.Circuits.{AreValues, circuit_clauses, input_values, node_values, value_at}
use Rattle.uc_circuit.proofs.GateClauses.{gate_defined}
use Rattle.uc_circuit.proofs.Evaluated.{gate_value-agree, evaluates_all}
use Rattle.uc_ops.specs.declared.model.Model.{Model}
use Rattle.uc_ops.specs.declared.node.Node.{Node}
use Rattle.uc_log.specs.declared.atom.Atom.{Atom}
use Rattle.uc_log.specs.declared.atom.Atom.TheVariants.{Free, Bit, Le, Eq}
use Rattle.uc_log.specs.declared.entry.Entry.{Entry}
use Rattle.uc_log.specs.declared.entry.Entry.TheVariants.{Gate as GateEntry, Atom as AtomEntry, Learnt}
use Rattle.uc_log.specs.Atoms.{Agrees, atom_truth}
use Rattle.uc_log.specs.Problems.{Question, IsQuestion, IsModelOf}
use Rattle.uc_log.specs.Refutes.{Within, AllWithin}
use Rattle.uc_log.specs.Entries.{Known, known_of, add, known_after, Meets, AllMeet, EndsEmpty}
use Rattle.uc_log.specs.Models.{AcceptedRefutes}
use Rattle.uc_log.proofs.Circuits.{gate_within, weaken, circuit_within, circuit_holds, inputs-gate, inputs-input}
use Rattle.uc_log.proofs.Hints.{learnt_sound}

-- values of the variables under which all that is known is true, in a model of the terms
pub record Holds (m : Model) (nodes : List Node) (k : Known) (values : List Bool) : Type 0 where
  pub each : length values ≡ length k.circuit
  pub agree : AllZip (Agrees m nodes) k.atoms (input_values k.circuit values)
  pub clauses : Satisfies (value_at values) k.clauses

abbrev pub IsClosed : Known → Type 0
IsClosed k = AllWithin (length k.circuit) k.clauses

zip_push : (m : Model) (nodes : List Node) (atoms : List Atom) (bs : List Bool) (a : Atom) (b : Bool) → AllZip (Agrees m nodes) atoms bs → Agrees m nodes a b → AllZip (Agrees m nodes) (atoms ++ a ∷ []) (bs ++ b ∷ [])
zip_push m nodes [] [] a b all one = (one, tt)
zip_push m nodes [] (_ ∷ bs) a b all one = absurd all
zip_push m nodes (_ ∷ atoms) [] a b all one = absurd all
zip_push m nodes (_ ∷ atoms) (_ ∷ bs) a b all one = (all.0, zip_push m nodes atoms bs a b all.1 one)

zip_length : (m : Model) (nodes : List Node) (atoms : List Atom) (bs : List Bool) → AllZip (Agrees m nodes) atoms bs → length bs ≡ length atoms
zip_length m nodes [] [] all = refl
zip_length m nodes [] (_ ∷ bs) all = absurd all
zip_length m nodes (_ ∷ atoms) [] all = absurd all
zip_length m nodes (_ ∷ atoms) (_ ∷ bs) all = ap suc (zip_length m nodes atoms bs all.1)

agrees_truth : (m : Model) (nodes : List Node) (a : Atom) → Agrees m nodes a (atom_truth m nodes a)
agrees_truth m nodes Free = tt
agrees_truth m nodes (Bit t k) = refl
agrees_truth m nodes (Le f) = refl
agrees_truth m nodes (Eq s t) = refl

-- a clause of the variables before keeps its truth
same_literal : (values more : List Bool) (l : Lit) → l.var < length values → literal_value (value_at (values ++ more)) l ≡ literal_value (value_at values) l
same_literal values more l h = ap (λ (b : Bool). literal_value (λ (_ : ℕ). b) l) (get_or_append_left values more _ l.var h)

still_holds : (values more : List Bool) (cs : List (List Lit)) → AllWithin (length values) cs → Satisfies (value_at values) cs → Satisfies (value_at (values ++ more)) cs
still_holds values more cs within holds k d h =
    let t : IsTrueClause (value_at values) (get_or cs k d) = holds k d h in
    let inside : t.literal.var < length values = All-contains (λ (l : Lit). l.var < length values) (get_or cs k d) t.literal (within k d h) t.there in
    record { literal = t.literal; there = t.there; is_true = same_literal values more t.literal inside ∙ t.is_true }

-- the values with that of one gate more
gate_holds :
    (values : List Bool) (g : Gate) → OperandsBelow (length values) g
    → Satisfies (value_at (values ++ gate_value (value_at values) g ∷ [])) (clauses_of_gate (length values) g)
gate_holds values g below =
    let b : Bool = gate_value (value_at values) g in
    let more : List Bool = values ++ b ∷ [] in
    let here : value_at more (length values) ≡ b = get_or_push values b _ (length values) refl in
    let same : gate_value (value_at values) g ≡ gate_value (value_at more) g =
    gate_value-agree (value_at values) (value_at more) (length values) g below (λ n h. sym (get_or_append_left values (b ∷ []) _ n h)) in
    (gate_defined (length values) g (value_at more)).1 (here ∙ same)

closed_add : (nodes : List Node) (k : Known) (e : Entry) → IsClosed k → Meets nodes k e → IsClosed (add k e)
closed_add nodes k (GateEntry g) closed meets =
    let long : length (k.circuit ++ Some g ∷ []) ≡ length k.circuit + 1 = length_push k.circuit (Some g) in
    subst (λ n. AllWithin n (k.clauses ++ clauses_of_gate (length k.circuit) g)) (sym long)
    (All-append (Within (length k.circuit + 1)) k.clauses (clauses_of_gate (length k.circuit) g)
    (weaken k.clauses (length k.circuit) (length k.circuit + 1) (omega arith) closed) (gate_within (length k.circuit) g meets))
closed_add nodes k (AtomEntry a) closed meets =
    let long : length (k.circuit ++ None ∷ []) ≡ length k.circuit + 1 = length_push k.circuit None in
    subst (AllWithin (length (k.circuit ++ None ∷ []))) (sym (append-nil k.clauses)) (weaken k.clauses (length k.circuit) (length (k.circuit ++ None ∷ [])) (omega arith) closed)
closed_add nodes k (Learnt c hints) closed meets =
    subst (λ (ns : List (Option Gate)). AllWithin (length ns) (k.clauses ++ c ∷ [])) (sym (append-nil k.circuit))
    (All-push (Within (length k.circuit)) k.clauses c closed meets.within)

pub closed_after : (nodes : List Node) (k : Known) (es : List Entry) → IsClosed k → AllMeet nodes k es → IsClosed (known_after k es)
closed_after nodes k [] closed all = closed
closed_after nodes k (e ∷ es) closed all = closed_after nodes (add k e) es (closed_add nodes k e closed all.0) all.1

pub closed_first : (q : Question) → IsQuestion q → IsClosed (known_of q)
closed_first q fine =
    All-push (Within (length q.circuit)) (circuit_clauses q.circuit) (q.goal ∷ []) (circuit_within q.circuit fine.circuit.ordered)
    (All-cons (λ (l : Lit). l.var < length q.circuit) q.goal [] fine.goal (All-nil (λ (l : Lit). l.var < length q.circuit)))

-- values for what is known go over into values for what is known with an entry
extend :
    (m : Model) (nodes : List Node) (k : Known) (e : Entry) (values : List Bool) → IsClosed k → Meets nodes k e
    → Holds m nodes k values → (more : List Bool) × Holds m nodes (add k e) more
extend m nodes k (GateEntry g) values closed meets holds =
    let b : Bool = gate_value (value_at values) g in
    let within : AllWithin (length values) k.clauses = subst (λ n. AllWithin n k.clauses) (sym holds.each) closed in
    let below : OperandsBelow (length values) g = subst (λ n. OperandsBelow n g) (sym holds.each) meets in
    let gates : Satisfies (value_at (values ++ b ∷ [])) (clauses_of_gate (length k.circuit) g) =
    subst (λ n. Satisfies (value_at (values ++ b ∷ [])) (clauses_of_gate n g)) holds.each (gate_holds values g below) in (
      values ++ b ∷ [],
      record {
        each = omega (arith, length_push values b, length_push k.circuit (Some g), holds.each);
        agree =
            subst (λ (xs : List Atom). AllZip (Agrees m nodes) xs (input_values (k.circuit ++ Some g ∷ []) (values ++ b ∷ []))) (sym (append-nil k.atoms))
            (subst (λ (bs : List Bool). AllZip (Agrees m nodes) k.atoms bs) (sym (inputs-gate k.circuit values g b holds.each)) holds.agree);
        clauses = All-append (IsTrueClause (value_at (values ++ b ∷ []))) k.clauses (clauses_of_gate (length k.circuit) g) (still_holds values (b ∷ []) k.clauses within holds.clauses) gates;
      },
    )
extend m nodes k (AtomEntry a) values closed meets holds =
    let b : Bool = atom_truth m nodes a in
    let within : AllWithin (length values) k.clauses = subst (λ n. AllWithin n k.clauses) (sym holds.each) closed in (
      values ++ b ∷ [],
      record {
        each = omega (arith, length_push values b, length_push k.circuit None, holds.each);
        agree =
            subst (λ (bs : List Bool). AllZip (Agrees m nodes) (k.atoms ++ a ∷ []) bs) (sym (inputs-input k.circuit values b holds.each))
            (zip_push m nodes k.atoms (input_values k.circuit values) a b holds.agree (agrees_truth m nodes a));
        clauses = subst (Satisfies (value_at (values ++ b ∷ []))) (sym (append-nil k.clauses)) (still_holds values (b ∷ []) k.clauses within holds.clauses);
      },
    )
extend m nodes k (Learnt c hints) values closed meets holds = (
  values,
  record {
    each = holds.each ∙ ap length (sym (append-nil k.circuit));
    agree =
        subst (λ (xs : List Atom). AllZip (Agrees m nodes) xs (input_values (k.circuit ++ []) values)) (sym (append-nil k.atoms))
        (subst (λ (ns : List (Option Gate)). AllZip (Agrees m nodes) k.atoms (input_values ns values)) (sym (append-nil k.circuit)) holds.agree);
    clauses = All-push (IsTrueClause (value_at values)) k.clauses c holds.clauses (learnt_sound (value_at values) (length k.circuit) k.clauses c hints holds.clauses meets);
  },
)

pub holds_after :
    (m : Model) (nodes : List Node) (k : Known) (es : List Entry) (values : List Bool) → IsClosed k → AllMeet nodes k es
    → Holds m nodes k values → (more : List Bool) × Holds m nodes (known_after k es) more
holds_after m nodes k [] values closed all holds = (values, holds)
holds_after m nodes k (e ∷ es) values closed all holds =
    let p : (more : List Bool) × Holds m nodes (add k e) more = extend m nodes k e values closed all.0 holds in
    holds_after m nodes (add k e) es p.0 (closed_add nodes k e closed all.0) all.1 p.1

-- a model of a problem gives values for what is known at first
pub holds_first : (m : Model) (nodes : List Node) (q : Question) (inputs : List Bool) → IsQuestion q → IsModelOf m inputs nodes q → Holds m nodes (known_of q) (node_values q.circuit inputs)
holds_first m nodes q inputs fine model =
    let are : AreValues q.circuit inputs (node_values q.circuit inputs) =
    evaluates_all q.circuit inputs fine.circuit.ordered (zip_length m nodes q.atoms inputs model.agree ∙ fine.atoms) in
    let v : ℕ → Bool = value_at (node_values q.circuit inputs) in
    record {
      each = are.each;
      agree = subst (λ (bs : List Bool). AllZip (Agrees m nodes) q.atoms bs) (sym are.given) model.agree;
      clauses =
          All-push (IsTrueClause v) (circuit_clauses q.circuit) (q.goal ∷ []) (circuit_holds v q.circuit are.gates)
          (record { literal = q.goal; there = Contains-get_or (q.goal ∷ []) 0 q.goal (omega arith); is_true = model.goal });
    }

ends_contains : (k : Known) (es : List Entry) → EndsEmpty k es → Contains (known_after k es).clauses []
ends_contains k [] ends = absurd ends
ends_contains k (e ∷ []) ends =
    subst (λ (cs : List (List Lit)). Contains (k.clauses ++ cs) []) (sym ends) (Contains-append_right k.clauses ([] ∷ []) [] (Contains-get_or ([] ∷ []) 0 [] (omega arith)))
ends_contains k (e ∷ next ∷ rest) ends = ends_contains (add k e) (next ∷ rest) ends

pub accepted_refutes : AcceptedRefutes
accepted_refutes nodes q entries fine accepts m inputs model =
    let p : (more : List Bool) × Holds m nodes (known_after (known_of q) entries) more =
    holds_after m nodes (known_of q) entries (node_values q.circuit inputs) (closed_first q fine) accepts.0 (holds_first m nodes q inputs fine model) in
    let empty : IsTrueClause (value_at p.0) [] =
    All-contains (IsTrueClause (value_at p.0)) (known_after (known_of q) entries).clauses [] p.1.clauses (ends_contains (known_of q) entries accepts.1) in
    let h : empty.there.0 < 0 = empty.there.1 in
    absurd (omega arith)
