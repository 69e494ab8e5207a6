use Rattle.std.proofs.Common.{ℕ}
use Rattle.std.specs.Int.{IsGcd}
use Rattle.uc_linear.proofs.divisor.gcd.Given as goal

abbrev pub invariant-divide : goal.invariant-divide
invariant-divide l = (g : ℕ) → IsGcd l.x l.y g → IsGcd l.fn.a l.fn.b g

abbrev pub decreases-divide : goal.decreases-divide
decreases-divide l = l.y
