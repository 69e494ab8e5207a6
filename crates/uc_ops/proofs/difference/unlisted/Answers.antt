use Rattle.std.proofs.Common.{arith, sym, ap, ◌∙◌, ◌-◌, ◌+◌, ◌++◌, ◌≡◌, suc, true}
use Rattle.uc_values.specs.Values.{indices, lists}
use Rattle.uc_ops.specs.Differences.{nth_value}
use Rattle.uc_ops.proofs.Differing.{unlisted_from-next}
use Rattle.uc_ops.proofs.difference.unlisted.Goals as goal

pub loop-place-preserved : goal.loop-place-preserved
loop-place-preserved c =
    let listed = indices c.args.rows.now ++ indices c.args.others.now in
    let more : c.at_most-limit.result - c.loop-place.place ≡ suc (c.at_most-limit.result - (c.loop-place.place + 1)) = omega (arith, c.loop-place-test.true) in
    let here : lists listed (nth_value c.args.ty.now c.loop-place.place) ≡ true = ap (lists listed) (sym c.nth-value.ensures) ∙ sym c.either_lists.ensures ∙ c.if-not-either_lists.false in
    c.loop-place.invariant ∙ unlisted_from-next c.args.ty.now listed c.loop-place.place (c.at_most-limit.result - c.loop-place.place) (c.at_most-limit.result - (c.loop-place.place + 1)) more here
