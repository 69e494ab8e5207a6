-- Sums of multiples of terms of integers, and comparisons of them.
use Rattle.std.specs.Prelude.{◌≡◌, ◌⊎◌, ℕ, ℤ, ◌+ℤ◌, ◌-ℤ◌, ◌*ℤ◌, ◌<◌, Bool as Truth, true, false, int_le, List, length, All, Contains}
use Rattle.std.specs.Ordering.{int_eq}
use Rattle.uc_values.specs.declared.ty.Ty.TheVariants.{Int as Integer}
use Rattle.uc_values.specs.declared.value.Value.TheVariants.{Int}
use Rattle.uc_linear.specs.Linear.{Pair, sum_at}
use Rattle.uc_ops.specs.declared.model.Model.{Model}
use Rattle.uc_ops.specs.declared.op.Op.{Op}
use Rattle.uc_ops.specs.declared.op.Op.TheVariants.{Eq as Equal, Le}
use Rattle.uc_ops.specs.declared.node.Node.{Node}
use Rattle.uc_ops.specs.Typing.{type_at}
use Rattle.uc_terms.specs.Tables.{WellTyped}
use Rattle.uc_terms.specs.Values.{value}
use Rattle.uc_simplify.specs.Forms.{number_at, numbers_at}
use Rattle.uc_simplify_steps.specs.Features.{Feature, integer, Brings, OneBrings}
use Rattle.uc_simplify.specs.Simplified.{Grows}

-- the variables of the pairs are terms of integers
abbrev pub AreIntegers : List Node → List Pair → Type 0
AreIntegers nodes pairs = All (λ p. (p.0 < length nodes) × (type_at nodes p.0 ≡ Integer)) pairs

-- the feature is that of integers, or one that the variable of a pair brings
abbrev pub PairBrings : List Node → List Pair → Feature → Type 0
PairBrings nodes pairs f = (f ≡ integer) ⊎ ((p : Pair) × Contains pairs p × Brings nodes p.0 f)

-- r of the new table is an integer, has under every model this number, and has no features but these
pub record IsInteger (new : List Node) (r : ℕ) (z : Model → ℤ) (Allowed : Feature → Type 0) : Type 0 where
  pub there : r < length new
  pub same : (m : Model) → value m new r ≡ Int (z m)
  pub ty : type_at new r ≡ Integer
  pub features : (f : Feature) → Brings new r f → Allowed f

-- r of the new table is so many times a term of the old one
abbrev pub IsTimes : List Node → ℕ → List Node → ℤ → ℕ → Type 0
IsTimes new r old factor variable = IsInteger new r (λ m. factor *ℤ number_at m old variable) (λ f. (f ≡ integer) ⊎ Brings old variable f)

-- r of the new table is the constant and the multiples that the pairs give, added
abbrev pub IsSumOf : List Node → ℕ → List Node → ℤ → List Pair → Type 0
IsSumOf new r old constant pairs = IsInteger new r (λ m. constant +ℤ sum_at (number_at m old) pairs) (PairBrings old pairs)

-- the parts are integers of a table that goes on from the old one, and have this sum under every model
pub record Adding (old now : List Node) (parts : List ℕ) (pairs : List Pair) (z : Model → ℤ) : Type 0 where
  pub grown : Grows old now
  pub well : WellTyped now
  pub there : All (λ p. p < length now) parts
  pub types : All (λ p. type_at now p ≡ Integer) parts
  pub same : (m : Model) → numbers_at m now parts ≡ z m
  pub features : (f : Feature) → OneBrings now parts f → PairBrings old pairs f

-- each variable of the new pairs is one of the old
abbrev pub SameVariables : List Pair → List Pair → Type 0
SameVariables new old = (p : Pair) → Contains new p → (q : Pair) × Contains old q × (q.0 ≡ p.0)

-- the left pairs less the right ones are the pairs
pub record AreSides (left right pairs : List Pair) : Type 0 where
  pub same : (point : ℕ → ℤ) → sum_at point left -ℤ sum_at point right ≡ sum_at point pairs
  pub left_variables : SameVariables left pairs
  pub right_variables : SameVariables right pairs

-- the operation compares two integers
abbrev pub compares : Op → Truth
compares Le = true
compares Equal = true
compares other = false

abbrev pub compared : Op → ℤ → ℤ → Truth
compared Le = int_le
compared other = int_eq
