-- What a gate computes, and its clauses.
use Rattle.std.specs.Prelude.{◌≡◌, ◌↔◌, ℕ, ◌<◌, Bool, not, ◌&&◌, if◌then◌else◌, List, [], ◌∷◌}
use Rattle.uc_circuit.specs.declared.literal.Lit.{Lit}
use Rattle.uc_circuit.specs.declared.gate.Gate.{Gate}
use Rattle.uc_circuit.specs.declared.gate.Gate.TheVariants.{And, Xor, Mux}
use Rattle.uc_circuit.specs.Literals.{positive, negate, literal_value}
use Rattle.uc_circuit.specs.Clauses.{Satisfies}

-- each operand is a variable below the bound, or its negation
abbrev pub OperandsBelow : ℕ → Gate → Type 0
OperandsBelow n (And a b) = (a.var < n) × (b.var < n)
OperandsBelow n (Xor a b) = (a.var < n) × (b.var < n)
OperandsBelow n (Mux c t e) = (c.var < n) × (t.var < n) × (e.var < n)

-- the gate's function, where v gives each variable its value
abbrev pub gate_value : (ℕ → Bool) → Gate → Bool
gate_value v (And a b) = literal_value v a && literal_value v b
gate_value v (Xor a b) = (if literal_value v a then not (literal_value v b) else literal_value v b)
gate_value v (Mux c t e) = (if literal_value v c then literal_value v t else literal_value v e)

-- the clauses of a gate, whose variable is g, in this order
abbrev pub clauses_of_gate : ℕ → Gate → List (List Lit)
clauses_of_gate g (And a b) =
    (negate (positive g) ∷ a ∷ [])
    ∷ (negate (positive g) ∷ b ∷ [])
    ∷ (positive g ∷ negate a ∷ negate b ∷ [])
    ∷ []
clauses_of_gate g (Xor a b) =
    (negate (positive g) ∷ a ∷ b ∷ [])
    ∷ (negate (positive g) ∷ negate a ∷ negate b ∷ [])
    ∷ (positive g ∷ negate a ∷ b ∷ [])
    ∷ (positive g ∷ a ∷ negate b ∷ [])
    ∷ []
clauses_of_gate g (Mux c t e) =
    (negate c ∷ negate t ∷ positive g ∷ [])
    ∷ (negate c ∷ t ∷ negate (positive g) ∷ [])
    ∷ (c ∷ negate e ∷ positive g ∷ [])
    ∷ (c ∷ e ∷ negate (positive g) ∷ [])
    ∷ []

-- the clauses are true exactly where the variable has the value of the gate's function
abbrev pub DefineGate : List (List Lit) → ℕ → Gate → Type 0
DefineGate clauses n g = (v : ℕ → Bool) → Satisfies v clauses ↔ (v n ≡ gate_value v g)
