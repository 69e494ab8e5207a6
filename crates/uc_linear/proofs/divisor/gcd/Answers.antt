use Rattle.std.proofs.Common.{arith}
use Rattle.std.proofs.lemmas.Nat.Gcd.{IsGcd-from_zero, IsGcd-from_mod}
use Rattle.uc_linear.proofs.divisor.gcd.Goals as goal

pub divide-preserved : goal.divide-preserved
divide-preserved c g h = c.divide.invariant g (IsGcd-from_mod c.divide.x c.divide.y g h)

pub returns : goal.returns
returns c = c.divide.invariant c.divide.x (IsGcd-from_zero c.divide.x c.divide.y (omega (arith, c.divide-test.false)))
