-- Linear forms of terms of integers, whose variables are terms by their numbers.
use Rattle.std.specs.Prelude.{◌≡◌, ◌≢◌, ℕ, ℤ, pos, ◌*ℤ◌, ◌<◌, List, map, length, All, Contains}
use Rattle.uc_values.specs.Values.{number_of}
use Rattle.uc_values.specs.declared.ty.Ty.TheVariants.{Int as Integer}
use Rattle.uc_values.specs.declared.value.Value.{Value}
use Rattle.uc_values.specs.declared.value.Value.TheVariants.{Int}
use Rattle.uc_ops.specs.declared.model.Model.{Model}
use Rattle.uc_ops.specs.declared.node.Node.{Node}
use Rattle.uc_ops.specs.Typing.{type_at}
use Rattle.uc_ops.specs.Meaning.{total}
use Rattle.uc_terms.specs.Values.{value, values_at}
use Rattle.uc_terms.specs.Subterms.{IsSubterm, IsBelow}
use Rattle.uc_linear.specs.Linear.{Pair, Linear, coefficient, value_at}

-- the number that a term stands for under a model
abbrev pub number_at : Model → List Node → ℕ → ℤ
number_at m nodes t = number_of (value m nodes t)

-- the sum of the numbers of terms
abbrev pub numbers_at : Model → List Node → List ℕ → ℤ
numbers_at m nodes parts = total (map number_of (values_at m nodes parts))

-- a term of integers below one of the roots
pub record IsAddend (nodes : List Node) (roots : List ℕ) (t : ℕ) : Type 0 where
  pub there : t < length nodes
  pub ty : type_at nodes t ≡ Integer
  pub below : IsBelow nodes roots t

-- The form has this number as its value under every model, and each variable with a coefficient is a term of integers below one
-- of the roots.
pub record IsForm (nodes : List Node) (roots : List ℕ) (f : Linear) (z : Model → ℤ) : Type 0 where
  pub same : (m : Model) → value_at (number_at m nodes) f ≡ z m
  pub within : (v : ℕ) → coefficient f.pairs v ≢ pos 0 → IsAddend nodes roots v

-- the same, and each variable that is listed is such a term
pub record IsFormOf (nodes : List Node) (roots : List ℕ) (f : Linear) (z : Model → ℤ) : Type 0 where
  pub same : (m : Model) → value_at (number_at m nodes) f ≡ z m
  pub within : (p : Pair) → Contains f.pairs p → IsAddend nodes roots p.0

-- the term has this value under every model
pub record IsValue (nodes : List Node) (t : ℕ) (v : Value) : Type 0 where
  pub same : (m : Model) → value m nodes t ≡ v

-- the term is a constant of this integer
abbrev pub IsNumber : List Node → ℕ → ℤ → Type 0
IsNumber nodes t z = (m : Model) → value m nodes t ≡ Int z

-- the number of the term is so many times that of a term of integers below it
pub record IsTimes (nodes : List Node) (t : ℕ) (k : ℤ) (p : ℕ) : Type 0 where
  pub there : p < length nodes
  pub ty : type_at nodes p ≡ Integer
  pub below : IsSubterm nodes t p
  pub same : (m : Model) → number_at m nodes t ≡ k *ℤ number_at m nodes p

-- the number of the term is the sum of those of terms of integers below it
pub record IsTotal (nodes : List Node) (t : ℕ) (own : List ℕ) : Type 0 where
  pub there : All (λ p. p < length nodes) own
  pub types : All (λ p. type_at nodes p ≡ Integer) own
  pub below : All (IsSubterm nodes t) own
  pub same : (m : Model) → number_at m nodes t ≡ numbers_at m nodes own

-- the form has the value of a multiple of the variable, and a coefficient for no other
pub record IsSingle (k : ℤ) (v : ℕ) (f : Linear) : Type 0 where
  pub same : (point : ℕ → ℤ) → value_at point f ≡ k *ℤ point v
  pub within : (w : ℕ) → coefficient f.pairs w ≢ pos 0 → w ≡ v
