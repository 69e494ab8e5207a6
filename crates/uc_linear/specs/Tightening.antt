-- A row `f <= 0` with its coefficients divided by their greatest common divisor.
use Rattle.std.specs.Prelude.{ℕ, ℤ, pos, negsuc, neg_ℤ, suc, ◌+ℤ◌, ◌*ℤ◌, ◌≤ℤ◌, ◌<ℤ◌, unsigned_abs, ◌≡◌, ◌/◌, ◌↔◌, List, [], ◌∷◌, map}
use Rattle.std.specs.Int.{◌∣◌}
use Rattle.uc_linear.specs.Linear.{Pair, Linear, Satisfies, times}

-- the number divides every coefficient
abbrev pub DividesAll : ℕ → List Pair → Type 0
DividesAll d [] = Unit {0}
DividesAll d (p ∷ ps) = (d ∣ unsigned_abs p.1) × DividesAll d ps

-- the number divides every coefficient, and each number that does divides it
pub record IsGreatestDivisor (g : ℕ) (ps : List Pair) : Type 0 where
  pub divides : DividesAll g ps
  pub greatest : (d : ℕ) → DividesAll d ps → d ∣ g

-- the quotient of a number and a positive one, rounded up
pub record IsCeiling (number : ℤ) (divisor : ℕ) (quotient : ℤ) : Type 0 where
  pub enough : number ≤ℤ (quotient *ℤ pos divisor)
  pub least : (quotient *ℤ pos divisor) <ℤ (number +ℤ pos divisor)

-- The coefficients are divided by their greatest common divisor, and so is the constant, which is rounded up, so that the bound on the variables is rounded down.
pub record IsTightened (new old : Linear) : Type 0 where
  pub divisor : ℕ
  pub greatest : IsGreatestDivisor divisor old.pairs
  pub pairs : old.pairs ≡ map (times (pos divisor)) new.pairs
  pub constant : IsCeiling old.constant divisor new.constant

-- a form without variables stays
abbrev pub Tightens : Linear → Linear → List Pair → Type 0
Tightens new old [] = new ≡ old
Tightens new old (p ∷ ps) = IsTightened new old

-- the same integer points satisfy both rows
abbrev pub SamePoints : Linear → Linear → Type 0
SamePoints new old = (point : ℕ → ℤ) → Satisfies point new ↔ Satisfies point old

-- the quotient, rounded toward 0
abbrev pub toward_zero : ℤ → ℕ → ℤ
toward_zero (pos n) d = pos (n / d)
toward_zero (negsuc n) d = neg_ℤ (pos (suc n / d))

-- a pair with its coefficient divided
abbrev pub over : ℕ → Pair → Pair
over d p = (p.0, toward_zero p.1 d)
