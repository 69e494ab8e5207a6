-- Where the inputs have values and no clause is false or unit, each gate has a value.
use Rattle.std.proofs.Common.{◌≡◌, ℕ, zero, suc, ◌+◌, ◌<◌, ◌≤◌, ◌⊎◌, inl, inr, Bool, false, List, [], ◌∷◌, Option, None, Some, length, get_or, refl, sym, ◌∙◌, ap, subst, arith, add-zero, zero-add}
use Rattle.std.specs.Prelude.{All}
use Rattle.std.specs.Option.{unwrap_or}
use Rattle.std.proofs.lemmas.Bool.{cases_eq}
use Rattle.std.proofs.lemmas.List.Elements.{All-contains}
use Rattle.uc_circuit.specs.declared.literal.Lit.{Lit}
use Rattle.uc_circuit.specs.declared.gate.Gate.{Gate}
use Rattle.uc_circuit.specs.Gates.{clauses_of_gate, gate_value, OperandsBelow}
use Rattle.uc_circuit.specs.Values.{IsSettled}
use Rattle.uc_circuit.specs.Circuits.{clauses_from}
use Rattle.uc_circuit.specs.Propagation.{EndsWithAll}
use Rattle.uc_circuit.proofs.Evaluated.{operands_below}
use Rattle.uc_circuit.proofs.Forcing.{GivesValue, gate_gives, literal_for}
use Rattle.uc_circuit.proofs.Reaching.{All-left, All-right}

-- the variable has a value
abbrev pub HasValue : List (Option Bool) → ℕ → Type 0
HasValue values n = (b : Bool) × (get_or values n None ≡ Some b)

pub value_or_none : (values : List (Option Bool)) (n : ℕ) → HasValue values n ⊎ (get_or values n None ≡ None)
value_or_none values n =
    elim (get_or values n None) as (λ o. get_or values n None ≡ o → HasValue values n ⊎ (get_or values n None ≡ None)) [ None ↦ λ e. inr e | Some b ↦ λ e. inl (b, e) ] refl

-- a gate whose operands have values has one
pub gate_valued : (values : List (Option Bool)) (n : ℕ) (g : Gate) → OperandsBelow n g → ((m : ℕ) → m < n → HasValue values m) → All (IsSettled values) (clauses_of_gate n g) → get_or values n None ≡ None → ⊥
gate_valued values n g below has settled unset =
    let v : ℕ → Bool = λ m. unwrap_or (get_or values m None) false in
    let gives : GivesValue values (clauses_of_gate n g) n (gate_value v g) =
    gate_gives v values n g below (λ m h. (has m h).1 ∙ ap (λ o. Some (unwrap_or o false)) (sym (has m h).1)) unset in
    let clause : IsSettled values gives.clause = All-contains (IsSettled values) (clauses_of_gate n g) gives.clause settled gives.there in
    clause.not_unit (literal_for n (gate_value v g)) gives.forces

-- the clauses of a gate are among those of the circuit
pub gate_clauses_hold : (P : List Lit → Type 0) (nodes : List (Option Gate)) (n i : ℕ) (g : Gate) → All P (clauses_from n nodes) → get_or nodes i None ≡ Some g → All P (clauses_of_gate (n + i) g)
gate_clauses_hold P [] n i g all is = absurd (cc)
gate_clauses_hold P (None ∷ nodes) n zero g all is = absurd (cc)
gate_clauses_hold P (Some f ∷ nodes) n zero g all is =
    let same : f ≡ g = cc in
    let first : All P (clauses_of_gate n f) = All-left P (clauses_of_gate n f) (clauses_from (n + 1) nodes) all in
    subst (λ (h : Gate). All P (clauses_of_gate (n + 0) h)) same (subst (λ (k : ℕ). All P (clauses_of_gate k f)) (sym (add-zero n)) first)
gate_clauses_hold P (None ∷ nodes) n (suc i) g all is =
    subst (λ (k : ℕ). All P (clauses_of_gate k g)) (omega arith) (gate_clauses_hold P nodes (n + 1) i g all is)
gate_clauses_hold P (Some f ∷ nodes) n (suc i) g all is =
    subst (λ (k : ℕ). All P (clauses_of_gate k g)) (omega arith)
    (gate_clauses_hold P nodes (n + 1) i g (All-right P (clauses_of_gate n f) (clauses_from (n + 1) nodes) all) is)

valued_below :
    (nodes : List (Option Gate)) (values : List (Option Bool))
    → ((n : ℕ) (g : Gate) → get_or nodes n None ≡ Some g → OperandsBelow n g)
    → ((n : ℕ) → n < length nodes → get_or nodes n None ≡ None → get_or values n None ≡ None → ⊥)
    → All (IsSettled values) (clauses_from 0 nodes)
    → (count : ℕ) → count ≤ length nodes → (m : ℕ) → m < count → HasValue values m
valued_below nodes values ordered inputs settled zero le m h = absurd (omega arith)
valued_below nodes values ordered inputs settled (suc n) le m h =
    let below : (k : ℕ) → k < n → HasValue values k = valued_below nodes values ordered inputs settled n (omega arith) in
    elim (cases_eq m n) [
      | inr ne ↦ below m (omega arith)
      | inl same ↦ subst (HasValue values) (sym same) (elim (value_or_none values n) [
        | inl has ↦ has
        | inr unset ↦
            let either : (o : Option Gate) → get_or nodes n None ≡ o → HasValue values n =
            λ o. elim o as (λ p. get_or nodes n None ≡ p → HasValue values n) [
              | None ↦ λ is. absurd (inputs n (omega arith) is unset)
              | Some g ↦ λ is. absurd (gate_valued values n g (ordered n g is) below
                  (subst (λ (k : ℕ). All (IsSettled values) (clauses_of_gate k g)) (zero-add n) (gate_clauses_hold (IsSettled values) nodes 0 n g settled is)) unset)
            ] in
            either (get_or nodes n None) refl
      ])
    ]

pub ends_with_all : EndsWithAll
ends_with_all nodes values ordered inputs settled n h unset =
    let has : HasValue values n = valued_below nodes values (operands_below nodes ordered) inputs settled (length nodes) (omega arith) n h in
    let e : Some has.0 ≡ None = sym has.1 ∙ unset in
    cc
