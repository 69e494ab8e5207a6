-- Two literals of a clause, and what becomes of the clause when one of them is false.
use Rattle.std.specs.Prelude.{◌≡◌, ◌≢◌, ◌⊎◌, ℕ, ◌+◌, ◌-◌, ◌*◌, ◌%◌, Bool, not, List, [], ◌∷◌, Option, None, Some, All, Contains, slice_index_or}
use Rattle.uc_circuit.specs.declared.literal.Lit.{Lit}
use Rattle.uc_circuit.specs.Values.{value_of, IsFalse, IsFalsified, Forces}
use Rattle.uc_rings.specs.declared.fate.Fate.{Fate}
use Rattle.uc_rings.specs.declared.fate.Fate.TheVariants.{Stays, Moves, Implies, Conflict}

-- the literal is true: its variable has the value that the sign asks for
abbrev pub IsTrueIn : List (Option Bool) → Lit → Type 0
IsTrueIn values l = value_of values l ≡ Some (not l.neg)

-- a literal of the clause is true
pub record HasTrue (values : List (Option Bool)) (clause : List Lit) : Type 0 where
  pub literal : Lit
  pub there : Contains clause literal
  pub is_true : IsTrueIn values literal

-- the clause has two different literals
pub record HasTwo (clause : List Lit) : Type 0 where
  pub one : Lit
  pub other : Lit
  pub one_there : Contains clause one
  pub other_there : Contains clause other
  pub different : one ≢ other

-- two different literals of the clause, None where it has not two
abbrev pub TwoOf : List Lit → Option (Lit × Lit) → Type 0
TwoOf clause None = HasTwo clause → ⊥
TwoOf clause (Some pair) = Contains clause pair.0 × Contains clause pair.1 × (pair.0 ≢ pair.1)

-- the first two literals, where they are different; a clause of one literal has not two
abbrev pub FirstTwo : List Lit → Option (Lit × Lit) → Type 0
FirstTwo [] r = r ≡ None
FirstTwo (a ∷ []) r = r ≡ None
FirstTwo (a ∷ b ∷ rest) r = (a ≢ b) → r ≡ Some (a, b)

-- the clause's other slot: 2c for 2c + 1, and 2c + 1 for 2c
abbrev pub partner : ℕ → ℕ
partner s = (s + 1) - 2 * (s % 2)

-- another literal of the clause that is not false, None where there is none
abbrev pub Replaces : List (Option Bool) → List Lit → Lit → Option Lit → Type 0
Replaces values clause other None = All (λ l. (l ≡ other) ⊎ IsFalse values l) clause
Replaces values clause other (Some l) = Contains clause l × (l ≢ other) × (IsFalse values l → ⊥)

-- what a clause does whose other watched literal is this one
abbrev pub FateIs : List (Option Bool) → List Lit → Lit → Fate → Type 0
FateIs values clause other Stays = IsTrueIn values other
FateIs values clause other (Moves l) = Contains clause l × (l ≢ other) × (IsFalse values l → ⊥)
FateIs values clause other (Implies l) = Forces values clause l × (l ≡ other)
FateIs values clause other Conflict = IsFalsified values clause
