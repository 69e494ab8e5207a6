use Rattle.std.proofs.Common.{arith, rules, subst, pos, take, get_or, ◌+◌}
use Rattle.std.specs.Int.{w128}
use mir.Val.{SFits}
use Rattle.std.proofs.lemmas.Int.{to_z-of_z}
use Rattle.uc_linear.specs.Tightening.{IsGreatestDivisor}
use Rattle.uc_linear.proofs.Dividing.{greatest_step, greatest_one}
use Rattle.uc_linear.proofs.divisor.greatest_divisor.Goals as goal

pub loop-coefficient-preserved : goal.loop-coefficient-preserved
loop-coefficient-preserved c =
    let fits : SFits w128 (get_or c.args.pairs.now c.loop-coefficient.coefficient-index (0, pos 0)).1 = search rules in
    let size = simp to_z-of_z at c.unsigned_abs.ensures.value in
    greatest_step c.loop-coefficient.divisor c.gcd-divisor.result c.unsigned_abs.result c.args.pairs.now c.loop-coefficient.coefficient-index (0, pos 0)
    c.loop-coefficient-test.true c.loop-coefficient.invariant size c.gcd-divisor.ensures

pub returns-then-divisor-eq1 : goal.returns-then-divisor-eq1
returns-then-divisor-eq1 c =
    let fits : SFits w128 (get_or c.args.pairs.now c.loop-coefficient.coefficient-index (0, pos 0)).1 = search rules in
    let size = simp to_z-of_z at c.unsigned_abs.ensures.value in
    let more = greatest_step c.loop-coefficient.divisor c.gcd-divisor.result c.unsigned_abs.result c.args.pairs.now c.loop-coefficient.coefficient-index (0, pos 0)
    c.loop-coefficient-test.true c.loop-coefficient.invariant size c.gcd-divisor.ensures in
    greatest_one (c.loop-coefficient.coefficient-index + 1) c.args.pairs.now
    (subst (λ n. IsGreatestDivisor n (take (c.loop-coefficient.coefficient-index + 1) c.args.pairs.now)) (omega (arith, c.if-divisor-eq1.true)) more)
