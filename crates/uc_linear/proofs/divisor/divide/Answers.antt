use Rattle.std.proofs.Common.{arith, rules, ap, ◌∙◌}
use Rattle.std.specs.Int.{w128}
use mir.Val.{SFits}
use Rattle.std.proofs.lemmas.Int.{to_z-of_z}
use Rattle.uc_linear.specs.Linear.{Pair}
use Rattle.uc_linear.specs.Tightening.{over}
use Rattle.uc_linear.proofs.Dividing.{divide_set}
use Rattle.uc_linear.proofs.divisor.divide.Goals as goal

pub loop-place-preserved : goal.loop-place-preserved
loop-place-preserved c =
    let x : Pair = c.index.result.now in
    let fits : SFits w128 c.toward_zero.result = search rules in
    let kept : SFits w128 c.index.result.now.1 = search rules in
    let e = simp to_z-of_z at c.toward_zero.ensures in
    divide_set (over c.args.divisor) c.args.pairs.now.items c.loop-place.pairs.items c.loop-place.place _ x
    (omega (arith, c.loop-place-test.true, c.len-place-end.ensures)) c.loop-place.invariant c.index.ensures
    (ap (λ k. (x.0, k)) (to_z-of_z w128 c.toward_zero.result fits ∙ e))
