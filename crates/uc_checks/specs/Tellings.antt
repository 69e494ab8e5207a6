-- What an answer tells of the operations on whole numbers that are met on the way to it.
use Rattle.std.specs.Prelude.{◌≡◌, ℕ, zero, suc, ◌+◌, ◌⊎◌, List, [], ◌∷◌, Option, Some, None, Result, Ok, Err}
use Rattle.uc_meaning.specs.declared.overflow.Wide.{Wide}
use Rattle.uc_operators.specs.declared.error.EvalError.{EvalError}
use Rattle.uc_operators.specs.declared.error.EvalError.TheVariants.{NoMemory, Wide as TooWide}
use Rattle.uc_operators.specs.Overflows.{first_wide}

-- What there is to tell: which operation is the first that leaves 128 bits, or that none does.
abbrev pub Telling : Type 1
Telling = Option Wide → Type 0

-- nothing is met
abbrev pub Nothing : Telling
Nothing first = None ≡ first

-- these operations are met, and nothing else
abbrev pub Of : List Wide → Telling
Of met first = first_wide met ≡ first

-- what is met on the way to a condition, and then, where it holds, what is met behind it
abbrev pub Followed : Telling → Type 0 → Telling → Telling
Followed here Holds next None = here None × (Holds → next None)
Followed here Holds next (Some w) = here (Some w) ⊎ (here None × Holds × next (Some w))

-- a condition on whose way nothing is met, and what is met behind it
abbrev pub Where : Type 0 → Telling → Telling
Where Holds next = Followed Nothing Holds next

-- one condition for each element of a list, up to the first that does not hold
unfoldable pub OfEach : {A : Type 0} → (A → Telling) → (A → Type 0) → List A → Telling
OfEach tells Holds [] = Nothing
OfEach tells Holds (x ∷ xs) = Followed (tells x) (Holds x) (OfEach tells Holds xs)

-- one condition for each of n positions from k on
unfoldable pub OfPositions : (ℕ → Telling) → (ℕ → Type 0) → ℕ → ℕ → Telling
OfPositions tells Holds k zero = Nothing
OfPositions tells Holds k (suc n) = Followed (tells k) (Holds k) (OfPositions tells Holds (k + 1) n)

-- a value is given only where no operation leaves 128 bits, and an operation only where it is the first that does
abbrev pub Tells : {A : Type 0} → Telling → Result A EvalError → Type 0
Tells telling (Ok x) = telling None
Tells telling (Err (TooWide w)) = telling (Some w)
Tells telling (Err NoMemory) = Unit {0}
