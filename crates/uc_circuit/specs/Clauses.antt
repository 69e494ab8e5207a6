-- Clauses, where each variable has a value.
use Rattle.std.specs.Prelude.{◌≡◌, ℕ, Bool, true, List, All, Contains}
use Rattle.uc_circuit.specs.declared.literal.Lit.{Lit}
use Rattle.uc_circuit.specs.Literals.{literal_value}

-- one of the literals is true
pub record IsTrueClause (v : ℕ → Bool) (clause : List Lit) : Type 0 where
  pub literal : Lit
  pub there : Contains clause literal
  pub is_true : literal_value v literal ≡ true

-- each clause is true
abbrev pub Satisfies : (ℕ → Bool) → List (List Lit) → Type 0
Satisfies v clauses = All (IsTrueClause v) clauses
