-- The clauses of a gate are true exactly where its variable has the value of its function.
use Rattle.std.proofs.Common.{◌≡◌, ℕ, zero, suc, ◌<◌, inl, inr, Bool, true, false, not, List, [], ◌∷◌, Option, Some, cond, length, get_or, refl, sym, ◌∙◌, ap, subst, arith}
use Rattle.std.proofs.Math.Bool.{beq, not-not, ◌&&◌, ◌||◌}
use Rattle.std.proofs.lemmas.Bool.{and_from, and_parts, or_cases, or_left, or_right}
use Rattle.std.proofs.lemmas.List.Elements.{All-cons, All-head, All-nil, All-tail, Contains-append_right, Contains-get_or}
use Rattle.uc_circuit.specs.declared.literal.Lit.{Lit}
use Rattle.uc_circuit.specs.declared.gate.Gate.{Gate}
use Rattle.uc_circuit.specs.declared.gate.Gate.TheVariants.{And, Xor, Mux}
use Rattle.uc_circuit.specs.Literals.{negate, literal_value}
use Rattle.uc_circuit.specs.Clauses.{IsTrueClause, Satisfies}
use Rattle.uc_circuit.specs.Gates.{clauses_of_gate, gate_value, DefineGate}
use Rattle.uc_circuit.proofs.SameLiterals.{beq_same, same_from_beq}

-- the tests that compute
abbrev pub clause_value : (ℕ → Bool) → List Lit → Bool
clause_value v [] = false
clause_value v (l ∷ c) = literal_value v l || clause_value v c

abbrev pub clauses_value : (ℕ → Bool) → List (List Lit) → Bool
clauses_value v [] = true
clauses_value v (c ∷ cs) = clause_value v c && clauses_value v cs

pub true_from_value : (v : ℕ → Bool) (c : List Lit) → clause_value v c ≡ true → IsTrueClause v c
true_from_value v [] e = absurd (cc)
true_from_value v (l ∷ c) e =
    elim (or_cases (literal_value v l) (clause_value v c) e) [
      | inl is ↦ record { literal = l; there = Contains-get_or (l ∷ c) 0 l (omega arith); is_true = is }
      | inr rest ↦
          let t : IsTrueClause v c = true_from_value v c rest in
          record { literal = t.literal; there = Contains-append_right (l ∷ []) c t.literal t.there; is_true = t.is_true }
    ]

value_at_place : (v : ℕ → Bool) (c : List Lit) (k : ℕ) (x : Lit) → k < length c → get_or c k x ≡ x → literal_value v x ≡ true → clause_value v c ≡ true
value_at_place v [] k x h e is = absurd (omega arith)
value_at_place v (l ∷ c) zero x h e is = or_left (literal_value v l) (clause_value v c) (ap (literal_value v) e ∙ is)
value_at_place v (l ∷ c) (suc k) x h e is = or_right (literal_value v l) (clause_value v c) (value_at_place v c k x (omega arith) e is)

pub value_from_true : (v : ℕ → Bool) (c : List Lit) → IsTrueClause v c → clause_value v c ≡ true
value_from_true v c t = value_at_place v c t.there.0 t.literal t.there.1 t.there.2 t.is_true

pub satisfies_from_value : (v : ℕ → Bool) (cs : List (List Lit)) → clauses_value v cs ≡ true → Satisfies v cs
satisfies_from_value v [] e = All-nil (IsTrueClause v)
satisfies_from_value v (c ∷ cs) e =
    let parts : (clause_value v c ≡ true) × (clauses_value v cs ≡ true) = and_parts (clause_value v c) (clauses_value v cs) e in
    All-cons (IsTrueClause v) c cs (true_from_value v c parts.0) (satisfies_from_value v cs parts.1)

pub value_from_satisfies : (v : ℕ → Bool) (cs : List (List Lit)) → Satisfies v cs → clauses_value v cs ≡ true
value_from_satisfies v [] s = refl
value_from_satisfies v (c ∷ cs) s =
    and_from (clause_value v c) (clauses_value v cs) (value_from_true v c (All-head (IsTrueClause v) c cs s))
    (value_from_satisfies v cs (All-tail (IsTrueClause v) c cs s))

other_sign : (s x : Bool) → cond (not s) (not x) x ≡ not (cond s (not x) x)
other_sign true x = sym (not-not x)
other_sign false x = refl

pub literal_value-negate : (v : ℕ → Bool) (l : Lit) → literal_value v (negate l) ≡ not (literal_value v l)
literal_value-negate v l = other_sign l.neg (v l.var)

and_table : (p q r : Bool) → ((not p || (q || false)) && ((not p || (r || false)) && ((p || (not q || (not r || false))) && true))) ≡ beq p (q && r)
and_table true true true = refl
and_table true true false = refl
and_table true false true = refl
and_table true false false = refl
and_table false true true = refl
and_table false true false = refl
and_table false false true = refl
and_table false false false = refl

xor_table : (p q r : Bool) → ((not p || (q || (r || false))) && ((not p || (not q || (not r || false))) && ((p || (not q || (r || false))) && ((p || (q || (not r || false))) && true)))) ≡ beq p (cond q (not r) r)
xor_table true true true = refl
xor_table true true false = refl
xor_table true false true = refl
xor_table true false false = refl
xor_table false true true = refl
xor_table false true false = refl
xor_table false false true = refl
xor_table false false false = refl

mux_table : (p c t e : Bool) → ((not c || (not t || (p || false))) && ((not c || (t || (not p || false))) && ((c || (not e || (p || false))) && ((c || (e || (not p || false))) && true)))) ≡ beq p (cond c t e)
mux_table true true true true = refl
mux_table true true true false = refl
mux_table true true false true = refl
mux_table true true false false = refl
mux_table true false true true = refl
mux_table true false true false = refl
mux_table true false false true = refl
mux_table true false false false = refl
mux_table false true true true = refl
mux_table false true true false = refl
mux_table false true false true = refl
mux_table false true false false = refl
mux_table false false true true = refl
mux_table false false true false = refl
mux_table false false false true = refl
mux_table false false false false = refl

clauses_value-gate : (n : ℕ) (g : Gate) (v : ℕ → Bool) → clauses_value v (clauses_of_gate n g) ≡ beq (v n) (gate_value v g)
clauses_value-gate n (And a b) v = simp literal_value-negate (and_table (v n) (literal_value v a) (literal_value v b))
clauses_value-gate n (Xor a b) v = simp literal_value-negate (xor_table (v n) (literal_value v a) (literal_value v b))
clauses_value-gate n (Mux c t e) v = simp literal_value-negate (mux_table (v n) (literal_value v c) (literal_value v t) (literal_value v e))

pub gate_defined : (n : ℕ) (g : Gate) → DefineGate (clauses_of_gate n g) n g
gate_defined n g v = (
  λ s. same_from_beq (v n) (gate_value v g) (sym (clauses_value-gate n g v) ∙ value_from_satisfies v (clauses_of_gate n g) s),
  λ e. satisfies_from_value v (clauses_of_gate n g) (clauses_value-gate n g v ∙ ap (λ b. beq (v n) b) (sym e) ∙ beq_same (v n)),
)

-- the same of the clauses that stand for a node
pub node_defined : (at : Option Gate) (n : ℕ) (gate : Gate) (clauses : List (List Lit)) → at ≡ Some gate → clauses ≡ clauses_of_gate n gate → (g : Gate) → at ≡ Some g → DefineGate clauses n g
node_defined at n gate clauses is has g same =
    let gates : gate ≡ g = cc in
    subst (λ (cs : List (List Lit)). DefineGate cs n g) (sym (has ∙ ap (clauses_of_gate n) gates)) (gate_defined n g)
