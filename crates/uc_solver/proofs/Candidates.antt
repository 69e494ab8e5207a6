-- What a candidate of the search tells, and why the search ends within its budget.
use Rattle.std.specs.Prelude.{◌≡◌, ℕ, ◌+◌, ◌<◌, ◌≤◌, ◌^◌, Bool as Truth, true, false, not, ◌&&◌, cond, List, [], ◌∷◌, ◌++◌, length, take, drop, get_or, replicate, set, slice_index_or, Option, None, Some, Result, Err, All, Contains, zero, suc, ◌⊎◌}
use Rattle.std.proofs.Common.{refl, sym, ap, ◌∙◌, subst, arith, inl, inr, append_assoc, append-nil}
use Rattle.std.proofs.Math.ListN.{get_or-append}
use Rattle.std.proofs.Math.Seq.{get_or-append_seam}
use Rattle.std.proofs.lemmas.List.{take_more, take_all, length_push, length-take-le}
use Rattle.std.proofs.lemmas.List.Elements.{All-nil, All-cons, All-contains}
use Rattle.std.proofs.lemmas.Bool.{false≢true}
use Rattle.std.proofs.lemmas.Bool.Decides.{leb_tells}
use Rattle.uc_values.specs.declared.value.Value.TheVariants.{Bool as truth}
use Rattle.uc_circuit.specs.declared.literal.Lit.{Lit}
use Rattle.uc_circuit.specs.declared.gate.Gate.{Gate}
use Rattle.uc_circuit.specs.declared.gate.Gate.TheVariants.{And}
use Rattle.uc_circuit.specs.Literals.{positive, negate, literal_value}
use Rattle.uc_circuit.specs.Gates.{gate_value, OperandsBelow, clauses_of_gate}
use Rattle.uc_circuit.specs.Clauses.{IsTrueClause, Satisfies}
use Rattle.uc_circuit.specs.Circuits.{IsOrdered, inputs_of, value_at, evaluate, node_values, literal_value_in, input_values, circuit_clauses}
use Rattle.uc_circuit.specs.Values.{IsFalse, Forces, IsFalsified}
use Rattle.uc_circuit.proofs.GateClauses.{gate_defined}
use Rattle.uc_circuit.proofs.Evaluated.{operands_below, gate_value-agree}
use Rattle.uc_circuit.proofs.Reaching.{All-left, All-right}
use Rattle.uc_circuit.proofs.Settling.{gate_clauses_hold}
use Rattle.uc_ops.specs.declared.model.Model.{Model}
use Rattle.uc_ops.specs.declared.node.Node.{Node}
use Rattle.uc_values.specs.Values.{truth_of}
use Rattle.uc_terms.specs.Values.{value}
use Rattle.uc_terms.specs.Subterms.{FitsTerm}
use Rattle.uc_terms.specs.Laws.{IsModelOf}
use Rattle.uc_log.specs.Atoms.{Agrees}
use Rattle.uc_log.specs.declared.atom.Atom.{Atom}
use Rattle.uc_log.specs.declared.atom.Atom.TheVariants.{Free, Bit, Le, Eq}
use Rattle.uc_log.specs.declared.entry.Entry.{Entry}
use Rattle.uc_log.specs.Problems.{Question, IsQuestion}
use Rattle.uc_log.specs.Entries.{known_of, known_after, clauses_of}
use Rattle.uc_log.specs.Refutes.{Refutes}
use Rattle.uc_log.proofs.Circuits.{inputs-gate, inputs-input}
use Rattle.uc_log.proofs.Growth.{prefix_known}
use Rattle.uc_blast.specs.Blasting.{IsOpaqueBit, AreBits, HasInputs, bits, constant, constant_question}
use Rattle.uc_learner.specs.Opened.{known_now}
use Rattle.uc_learner.specs.Learners.{Learning, HasTaken, IsUnitRefutable, flag_of, input_flags}
use Rattle.uc_solver.specs.Searches.{starts_free, is_free, is_true_question, IsProblemOf, FitsBudget, given_if, first_values, IsCandidate, IsOpenCandidate}
use Rattle.uc_solver.specs.Causes.{IsOf}
use Rattle.uc_solver.specs.declared.answer.SolveError.{SolveError}
use Rattle.uc_solver.specs.declared.answer.SolveError.TheVariants.{NoMemory, Budget}
use Rattle.uc_learner.specs.declared.learn.LearnError.{LearnError}
use Rattle.uc_learner.specs.declared.learn.LearnError.TheVariants.{NoMemory as SearchMemory, Budget as SearchBudget}
use Rattle.std.specs.Option.{is_some, option_copied}
use Rattle.std.specs.List.{AllZip}
use denote.Bor.{Bor}

-- the values of the first variables
pub firsts_long : (v : ℕ → Truth) (n : ℕ) → length (first_values v n) ≡ n
firsts_long v zero = refl
firsts_long v (suc n) = omega (arith, length_push (first_values v n) (v n), firsts_long v n)

pub firsts_at : (v : ℕ → Truth) (n i : ℕ) → i < n → value_at (first_values v n) i ≡ v i
firsts_at v zero i l = absurd (omega (arith, l))
firsts_at v (suc n) i l =
    elim (leb_tells (suc i) n) [
      | inl x ↦ get_or-append (first_values v n) (v n ∷ []) false i (omega (arith, x.1, firsts_long v n)) ∙ firsts_at v n i x.1
      | inr x ↦
          let here : i ≡ length (first_values v n) = omega (arith, l, x.1, firsts_long v n) in
          let is : n ≡ i = omega (arith, l, x.1) in
          ap (value_at (first_values v (suc n))) here ∙ get_or-append_seam (first_values v n) (v n) [] false ∙ ap v is
    ]

-- values under which each gate has its function's value are those of the circuit
record AreGates (nodes : List (Option Gate)) (front values : List Truth) : Type 0 where
  long : length values ≡ length nodes
  below : (i : ℕ) (g : Gate) → get_or nodes i None ≡ Some g → OperandsBelow (length front + i) g
  gates : (i : ℕ) (g : Gate) → get_or nodes i None ≡ Some g → value_at values i ≡ gate_value (value_at (front ++ values)) g

rest_gates : (top : Option Gate) (nodes : List (Option Gate)) (front values : List Truth) (b : Truth) → AreGates (top ∷ nodes) front (b ∷ values) → AreGates nodes (front ++ b ∷ []) values
rest_gates top nodes front values b a = record {
  long = omega (arith, a.long);
  below = λ i g e. subst (λ n. OperandsBelow n g) (omega (arith, length_push front b)) (a.below (suc i) g e);
  gates = λ i g e. a.gates (suc i) g e ∙ ap (λ xs. gate_value (value_at xs) g) (sym (append_assoc front (b ∷ []) values));
}

evaluates : (nodes : List (Option Gate)) (front values : List Truth) → AreGates nodes front values → evaluate nodes (input_values nodes values) front ≡ front ++ values
evaluates [] front [] a = sym (append-nil front)
evaluates [] front (b ∷ values) a = absurd (omega (arith, a.long))
evaluates (_ ∷ nodes) front [] a = absurd (omega (arith, a.long))
evaluates (None ∷ nodes) front (b ∷ values) a =
    evaluates nodes (front ++ b ∷ []) values (rest_gates None nodes front values b a) ∙ append_assoc front (b ∷ []) values
evaluates (Some g ∷ nodes) front (b ∷ values) a =
    let agree : (m : ℕ) → m < length front + 0 → value_at front m ≡ value_at (front ++ b ∷ values) m = λ m l. sym (get_or-append front (b ∷ values) false m (omega (arith, l))) in
    let is : gate_value (value_at front) g ≡ b = gate_value-agree (value_at front) (value_at (front ++ b ∷ values)) (length front + 0) g (a.below 0 g refl) agree ∙ sym (a.gates 0 g refl) in
    ap (λ x. evaluate nodes (input_values nodes values) (front ++ x ∷ [])) is
    ∙ evaluates nodes (front ++ b ∷ []) values (rest_gates (Some g) nodes front values b a) ∙ append_assoc front (b ∷ []) values

node_inside : (nodes : List (Option Gate)) (n : ℕ) (g : Gate) → get_or nodes n None ≡ Some g → n < length nodes
node_inside [] n g e = cc
node_inside (x ∷ nodes) zero g e = omega arith
node_inside (x ∷ nodes) (suc n) g e = omega (arith, node_inside nodes n g e)

literal_agree : (v w : ℕ → Truth) (l : Lit) → v l.var ≡ w l.var → literal_value v l ≡ literal_value w l
literal_agree v w l same = ap (λ b. cond l.neg (not b) b) same

only_literal : (v : ℕ → Truth) (l : Lit) → IsTrueClause v (l ∷ []) → literal_value v l ≡ true
only_literal v l c = only c.literal c.there.0 c.there.1 c.there.2 c.is_true
  where
    only : (k : Lit) (i : ℕ) → i < 1 → get_or (l ∷ []) i k ≡ k → literal_value v k ≡ true → literal_value v l ≡ true
    only k zero b e t = ap (literal_value v) e ∙ t
    only k (suc i) b e t = absurd (omega (arith, b))

-- values that make each clause true make the goal true, where the inputs have their values
pub goal_true : (v : ℕ → Truth) (q : Question) → IsQuestion q → Satisfies v (clauses_of q) → literal_value_in q.circuit (input_values q.circuit (first_values v (length q.circuit))) q.goal ≡ true
goal_true v q fine h =
    let nodes = q.circuit in
    let values = first_values v (length nodes) in
    let circuit = All-left (IsTrueClause v) (circuit_clauses nodes) ((q.goal ∷ []) ∷ []) h in
    let own = All-right (IsTrueClause v) (circuit_clauses nodes) ((q.goal ∷ []) ∷ []) h in
    let at : (i : ℕ) (g : Gate) → get_or nodes i None ≡ Some g → v i ≡ gate_value v g = λ i g e.
    subst (λ k. v k ≡ gate_value v g) (omega arith) ((gate_defined (0 + i) g v).0 (gate_clauses_hold (IsTrueClause v) nodes 0 i g circuit e)) in
    let gates : AreGates nodes [] values = record {
      long = firsts_long v (length nodes);
      below = λ i g e. subst (λ k. OperandsBelow k g) (omega arith) (operands_below nodes fine.circuit.ordered i g e);
      gates = λ i g e.
          let inside = node_inside nodes i g e in
          firsts_at v (length nodes) i inside ∙ at i g e
          ∙ gate_value-agree v (value_at values) i g (operands_below nodes fine.circuit.ordered i g e) (λ m l. sym (firsts_at v (length nodes) m (omega (arith, l, inside))));
    } in
    let all : node_values nodes (input_values nodes values) ≡ values = evaluates nodes [] values gates in
    ap (λ xs. literal_value (value_at xs) q.goal) all
    ∙ literal_agree (value_at values) v q.goal (firsts_at v (length nodes) q.goal.var fine.goal)
    ∙ only_literal v q.goal (own 0 (q.goal ∷ []) (omega arith))

-- the inputs among one variable more
pub inputs_gate : (nodes : List (Option Gate)) (v : ℕ → Truth) (n : ℕ) (g : Gate) → n < length nodes → get_or nodes n None ≡ Some g
    → input_values (take (n + 1) nodes) (first_values v (n + 1)) ≡ input_values (take n nodes) (first_values v n)
inputs_gate nodes v n g l e =
    let next : n + 1 ≡ suc n = omega arith in
    ap (λ k. input_values (take (n + 1) nodes) (first_values v k)) next
    ∙ ap (λ xs. input_values xs (first_values v (suc n))) (take_more nodes n None l ∙ ap (λ x. take n nodes ++ x ∷ []) e)
    ∙ inputs-gate (take n nodes) (first_values v n) g (v n) (firsts_long v n ∙ sym (length-take-le n nodes (omega (arith, l))))

pub inputs_input : (nodes : List (Option Gate)) (v : ℕ → Truth) (n : ℕ) → n < length nodes → get_or nodes n None ≡ None
    → input_values (take (n + 1) nodes) (first_values v (n + 1)) ≡ input_values (take n nodes) (first_values v n) ++ v n ∷ []
inputs_input nodes v n l e =
    let next : n + 1 ≡ suc n = omega arith in
    ap (λ k. input_values (take (n + 1) nodes) (first_values v k)) next
    ∙ ap (λ xs. input_values xs (first_values v (suc n))) (take_more nodes n None l ∙ ap (λ x. take n nodes ++ x ∷ []) e)
    ∙ inputs-input (take n nodes) (first_values v n) (v n) (firsts_long v n ∙ sym (length-take-le n nodes (omega (arith, l))))

pub inputs_next : (nodes : List (Option Gate)) (v : ℕ → Truth) (n : ℕ) (flag : Truth) → n < length nodes → flag ≡ flag_of (get_or nodes n None)
    → input_values (take (n + 1) nodes) (first_values v (n + 1)) ≡ input_values (take n nodes) (first_values v n) ++ given_if flag (v n)
inputs_next nodes v n flag l e = cases (get_or nodes n None) refl
  where
    cases : (o : Option Gate) → get_or nodes n None ≡ o → input_values (take (n + 1) nodes) (first_values v (n + 1)) ≡ input_values (take n nodes) (first_values v n) ++ given_if flag (v n)
    cases None is =
        let t : flag ≡ true = e ∙ ap flag_of is in
        inputs_input nodes v n l is ∙ ap (λ b. input_values (take n nodes) (first_values v n) ++ given_if b (v n)) (sym t)
    cases (Some g) is =
        let t : flag ≡ false = e ∙ ap flag_of is in
        inputs_gate nodes v n g l is ∙ sym (append-nil (input_values (take n nodes) (first_values v n))) ∙ ap (λ b. input_values (take n nodes) (first_values v n) ++ given_if b (v n)) (sym t)

pub inputs_all : (nodes : List (Option Gate)) (v : ℕ → Truth) (n : ℕ) (found : List Truth) → n ≡ length nodes → found ≡ input_values (take n nodes) (first_values v n) → found ≡ input_values nodes (first_values v (length nodes))
inputs_all nodes v n found e h = h ∙ ap (λ xs. input_values xs (first_values v n)) (take_all n nodes (omega (arith, e))) ∙ ap (λ k. input_values nodes (first_values v k)) e

-- the clauses of the problem are among those that are known
pub problem_satisfied : (v : ℕ → Truth) (q : Question) (opened : Option Question) (log : List Entry) → opened ≡ Some q → Satisfies v (known_now opened log).clauses → Satisfies v (clauses_of q)
problem_satisfied v q opened log is h =
    let g = prefix_known (known_of q) log 0 in
    All-left (IsTrueClause v) (clauses_of q) g.more_clauses (subst (Satisfies v) g.clauses (subst (λ o. Satisfies v (known_now o log).clauses) is h))

-- which problems are of a goal that comes out as true
free_bit : (nodes : List Node) (u : ℕ) (a : Atom) → IsOpaqueBit nodes u a → is_free a ≡ true → ⊥
free_bit nodes u Free o e = o
free_bit nodes u (Bit k j) o e = false≢true e
free_bit nodes u (Le f) o e = false≢true e
free_bit nodes u (Eq x y) o e = false≢true e

free_first : (nodes : List Node) (u : ℕ) (atoms : List Atom) → All (IsOpaqueBit nodes u) atoms → starts_free atoms ≡ true → ⊥
free_first nodes u [] h e = false≢true e
free_first nodes u (a ∷ atoms) h e = free_bit nodes u a (h 0 a (omega arith)) e

and_first : (a b : Truth) → (a && b) ≡ true → a ≡ true
and_first true b e = refl
and_first false b e = absurd (false≢true e)

constant_true : (b : Truth) → is_true_question (constant_question b) ≡ b
constant_true true = refl
constant_true false = refl

pub true_value : (nodes : List Node) (u : ℕ) (q : Question) (m : Model) → HasInputs nodes u q → is_true_question q ≡ true → value m nodes u ≡ truth true
true_value nodes u q m (bits h) e = absurd (free_first nodes u q.atoms h.opaque (and_first (starts_free q.atoms) q.goal.neg e))
true_value nodes u q m (constant b h is) e =
    let t : b ≡ true = sym (constant_true b) ∙ ap is_true_question (sym is) ∙ e in
    h m ∙ ap truth t

one_input : (c b : Truth) → literal_value_in (constant_question c).circuit (b ∷ []) (constant_question c).goal ≡ c
one_input true true = refl
one_input true false = refl
one_input false true = refl
one_input false false = refl

-- a constant that is false has no candidate
no_candidate : (v : ℕ → Truth) → IsQuestion (constant_question false) → Satisfies v (clauses_of (constant_question false)) → ⊥
no_candidate v fine h = false≢true (sym (one_input false (v 0)) ∙ goal_true v (constant_question false) fine h)

candidate_cases : (nodes : List Node) (u : ℕ) (q : Question) (v : ℕ → Truth) → IsCandidate nodes u q v → HasInputs nodes u q → AreBits nodes u q.atoms
candidate_cases nodes u q v c (bits h) = h
candidate_cases nodes u q v c (constant true h is) = absurd (false≢true (sym c.not_true ∙ ap is_true_question is))
candidate_cases nodes u q v c (constant false h is) = absurd (no_candidate v (subst IsQuestion is c.fine) (subst (λ x. Satisfies v (clauses_of x)) is c.satisfied))

pub candidate_bits : (nodes : List Node) (u : ℕ) (q : Question) (v : ℕ → Truth) → IsCandidate nodes u q v → AreBits nodes u q.atoms
candidate_bits nodes u q v c = candidate_cases nodes u q v c c.problem.inputs

-- the candidate of the opened problem
pub opened_candidate : (nodes : List Node) (u : ℕ) (opened : Option Question) (v : ℕ → Truth) (p : Question) → IsOpenCandidate nodes u opened v → Some p ≡ opened → IsCandidate nodes u p v
opened_candidate nodes u opened v p c e =
    let same : Some c.question ≡ Some p = sym c.is ∙ sym e in
    let own : c.question ≡ p = cc in
    subst (λ q. IsCandidate nodes u q v) own c.candidate

inputs_long : (nodes : List (Option Gate)) (values : List Truth) → length (input_values nodes values) ≡ inputs_of nodes
inputs_long [] values = refl
inputs_long (None ∷ nodes) values = omega (arith, inputs_long nodes (drop 1 values))
inputs_long (Some g ∷ nodes) values = omega (arith, inputs_long nodes (drop 1 values))

pub atoms_long : (nodes : List Node) (u : ℕ) (q : Question) (v : ℕ → Truth) (atoms : List Atom) (circuit : List (Option Gate)) (inputs : List Truth) → IsCandidate nodes u q v → atoms ≡ q.atoms → circuit ≡ q.circuit
    → inputs ≡ input_values circuit (first_values v (length circuit)) → length atoms ≡ length inputs
atoms_long nodes u q v atoms circuit inputs c ea ec ei =
    ap length ea ∙ c.fine.atoms ∙ ap inputs_of (sym ec) ∙ sym (inputs_long circuit (first_values v (length circuit))) ∙ ap length (sym ei)

-- a model that agrees with the inputs of a candidate is one of the term
pub candidate_model : (nodes : List Node) (u : ℕ) (q : Question) (v : ℕ → Truth) (m : Model) (atoms : List Atom) (circuit : List (Option Gate)) (inputs : List Truth) → IsCandidate nodes u q v → atoms ≡ q.atoms → circuit ≡ q.circuit
    → inputs ≡ input_values circuit (first_values v (length circuit)) → AllZip (Agrees m nodes) atoms inputs → FitsTerm m nodes u → IsModelOf m nodes u
candidate_model nodes u q v m atoms circuit inputs c ea ec ei agree fit =
    let agrees : AllZip (Agrees m nodes) q.atoms inputs = subst (λ xs. AllZip (Agrees m nodes) xs inputs) ea agree in
    let own : inputs ≡ input_values q.circuit (first_values v (length q.circuit)) = ei ∙ ap (λ x. input_values x (first_values v (length x))) ec in
    let is : literal_value_in q.circuit inputs q.goal ≡ true = ap (λ i. literal_value_in q.circuit i q.goal) own ∙ goal_true v q c.fine c.satisfied in
    record { fits = fit; holds = ap truth_of (c.problem.stands.same m inputs agrees) ∙ is }

-- a model of a goal that comes out as true
pub true_model : (nodes : List Node) (u : ℕ) (q : Question) (m : Model) → IsProblemOf nodes u q → is_true_question q ≡ true → FitsTerm m nodes u → IsModelOf m nodes u
true_model nodes u q m p e fit = record { fits = fit; holds = ap truth_of (true_value nodes u q m p.inputs e) }

-- unit propagation refutes a constant that is false
refuted_at_once : Refutes (clauses_of (constant_question false)) (None ∷ None ∷ []) (3 ∷ 0 ∷ 1 ∷ [])
refuted_at_once =
    let last : IsFalsified (Some true ∷ Some true ∷ []) (negate (positive 1) ∷ negate (positive 0) ∷ []) =
    All-cons (IsFalse (Some true ∷ Some true ∷ [])) (negate (positive 1)) (negate (positive 0) ∷ []) refl
    (All-cons (IsFalse (Some true ∷ Some true ∷ [])) (negate (positive 0)) [] refl (All-nil (IsFalse (Some true ∷ Some true ∷ [])))) in
    let second : Forces (None ∷ Some true ∷ []) (negate (positive 1) ∷ positive 0 ∷ []) (positive 0) = record {
      there = (1, omega arith, refl);
      unset = refl;
      rest = All-cons (λ m. (m ≡ positive 0) ⊎ IsFalse (None ∷ Some true ∷ []) m) (negate (positive 1)) (positive 0 ∷ []) (inr refl)
          (All-cons (λ m. (m ≡ positive 0) ⊎ IsFalse (None ∷ Some true ∷ []) m) (positive 0) [] (inl refl) (All-nil (λ m. (m ≡ positive 0) ⊎ IsFalse (None ∷ Some true ∷ []) m)));
    } in
    let first : Forces (None ∷ None ∷ []) (positive 1 ∷ []) (positive 1) = record {
      there = (0, omega arith, refl);
      unset = refl;
      rest = All-cons (λ m. (m ≡ positive 1) ⊎ IsFalse (None ∷ None ∷ []) m) (positive 1) [] (inl refl) (All-nil (λ m. (m ≡ positive 1) ⊎ IsFalse (None ∷ None ∷ []) m));
    } in
    (omega arith, inr (positive 1, first, (omega arith, inr (positive 0, second, (omega arith, inl (refl, last))))))

pub unit_refutable : (q : Question) (l : Learning) → HasTaken q [] l → q ≡ constant_question false → IsUnitRefutable (length l.inputs) l.clauses
unit_refutable q l t is =
    let n : length l.inputs ≡ 2 = ap length t.inputs ∙ ap (λ x. length (input_flags (known_of x).circuit)) is in
    let cs : l.clauses ≡ clauses_of (constant_question false) = t.clauses ∙ ap clauses_of is in
    record {
      hints = 3 ∷ 0 ∷ 1 ∷ [];
      refutes = subst (λ k. Refutes l.clauses (replicate k None) (3 ∷ 0 ∷ 1 ∷ [])) (sym n) (subst (λ xs. Refutes xs (None ∷ None ∷ []) (3 ∷ 0 ∷ 1 ∷ [])) (sym cs) refuted_at_once);
    }

-- the search does not end for want of budget
known_inputs : (q : Question) (opened : Option Question) (log : List Entry) → IsQuestion q → opened ≡ Some q → log ≡ [] → inputs_of (known_now opened log).circuit ≡ length q.atoms
known_inputs q opened log fine is empty =
    ap (λ o. inputs_of (known_now o log).circuit) is ∙ ap (λ es. inputs_of (known_after (known_of q) es).circuit) empty ∙ sym fine.atoms

enough_cases : {R : Type 0} (nodes : List Node) (u : ℕ) (q : Question) (opened : Option Question) (log : List Entry) (l : Learning) (here budget : ℕ) → HasInputs nodes u q → IsQuestion q → is_true_question q ≡ false
    → opened ≡ Some q → log ≡ [] → here ≡ 0 → HasTaken q [] l → FitsBudget nodes u q budget → 1 ≤ budget
    → (here + 2 ^ inputs_of (known_now opened log).circuit ≤ budget → R) → (here + 1 ≤ budget → IsUnitRefutable (length l.inputs) l.clauses → R) → R
enough_cases nodes u q opened log l here budget (bits h) fine off is empty none t fits some first second =
    let low : 2 ^ inputs_of (known_now opened log).circuit ≤ budget = subst (λ n. 2 ^ n ≤ budget) (sym (known_inputs q opened log fine is empty)) (fits h) in
    first (omega (arith, low, none))
enough_cases nodes u q opened log l here budget (constant true h e) fine off is empty none t fits some first second = absurd (false≢true (sym off ∙ ap is_true_question e))
enough_cases nodes u q opened log l here budget (constant false h e) fine off is empty none t fits some first second = second (omega (arith, some, none)) (unit_refutable q l t e)

pub enough : {R : Type 0} (nodes : List Node) (u : ℕ) (q : Question) (opened : Option Question) (log : List Entry) (l : Learning) (here budget : ℕ) → IsProblemOf nodes u q → IsQuestion q → is_true_question q ≡ false
    → opened ≡ Some q → log ≡ [] → here ≡ 0 → HasTaken q [] l → FitsBudget nodes u q budget → 1 ≤ budget
    → (here + 2 ^ inputs_of (known_now opened log).circuit ≤ budget → R) → (here + 1 ≤ budget → IsUnitRefutable (length l.inputs) l.clauses → R) → R
enough nodes u q opened log l here budget p fine off is empty none t fits some first second = enough_cases nodes u q opened log l here budget p.inputs fine off is empty none t fits some first second

-- why a search stopped
pub of_budget : (cause : LearnError) (e : SolveError) → IsOf cause e → e ≡ Budget → cause ≡ SearchBudget
of_budget SearchMemory e h b = let x = sym h ∙ b in cc
of_budget SearchBudget e h b = refl

-- whether a node is an input
pub flag_is : (o : Option (Bor Gate)) (at : Option Gate) (flag : Truth) → is_some o ≡ not flag → option_copied o ≡ at → flag ≡ flag_of at
flag_is None at true h e = ap flag_of e
flag_is None at false h e = cc
flag_is (Some g) at true h e = cc
flag_is (Some g) at false h e = ap flag_of e

pub same_error : {T E : Type 0} (r : Result T E) (a b : E) → r ≡ Err a → r ≡ Err b → a ≡ b
same_error r a b h g = let e : Err a ≡ Err b = sym h ∙ g in cc
