-- Values that some variables have, and what literals and clauses are under them.
use Rattle.std.specs.Prelude.{◌≡◌, ◌⊎◌, Bool, not, List, Option, None, Some, set, All, Contains, slice_index_or}
use Rattle.uc_circuit.specs.declared.literal.Lit.{Lit}

abbrev pub value_of : List (Option Bool) → Lit → Option Bool
value_of values l = slice_index_or values l.var None

-- the literal is false: its variable has the value that the sign excludes
abbrev pub IsFalse : List (Option Bool) → Lit → Type 0
IsFalse values l = value_of values l ≡ Some l.neg

abbrev pub HasNoValue : List (Option Bool) → Lit → Type 0
HasNoValue values l = value_of values l ≡ None

-- the values after the literal was made true
abbrev pub assign : List (Option Bool) → Lit → List (Option Bool)
assign values l = set values l.var (Some (not l.neg))

-- each literal of the clause is false
abbrev pub IsFalsified : List (Option Bool) → List Lit → Type 0
IsFalsified values clause = All (IsFalse values) clause

-- the clause is unit: this literal of it has no value, and each other one is false
pub record Forces (values : List (Option Bool)) (clause : List Lit) (l : Lit) : Type 0 where
  pub there : Contains clause l
  pub unset : HasNoValue values l
  pub rest : All (λ m. (m ≡ l) ⊎ IsFalse values m) clause

-- the clause is neither false nor unit
pub record IsSettled (values : List (Option Bool)) (clause : List Lit) : Type 0 where
  pub not_false : IsFalsified values clause → ⊥
  pub not_unit : (l : Lit) → Forces values clause l → ⊥
