use Rattle.std.proofs.Common.{arith, rules, map, ◌∙◌}
use Rattle.std.proofs.lemmas.Int.{to_z-of_z}
use Rattle.std.specs.Int.{w128}
use mir.Val.{SFits, to_z, of_z}
use Rattle.uc_values.specs.Values.{number_of}
use Rattle.uc_ops.specs.Meaning.{part}
use Rattle.uc_ops.proofs.Parts.{Summing-more, Summing-met, number_at}
use Rattle.uc_ops.proofs.application.sum_of.Goals as goal

pub loop-place-preserved : goal.loop-place-preserved
loop-place-preserved c =
    let fits : SFits w128 c.number.result = search rules in
    let kept : SFits w128 c.in_ok-total.total = search rules in
    let narrow = simp to_z-of_z at c.in_ok-total.ensures.narrow in
    let ok = simp to_z-of_z at c.in_ok-total.ensures.ok in
    let r = number_at c.args.given.now c.args.parts.now c.loop-place.place c.number.result (omega arith) c.number.ensures in
    Summing-more (map number_of (map (part c.args.given.now) c.args.parts.now)) c.loop-place.place (to_z w128 c.loop-place.total-bits) c.number.result (to_z w128 (of_z w128 c.in_ok-total.total))
    r.0 r.1 (to_z-of_z w128 c.in_ok-total.total kept ∙ ok) narrow c.loop-place.invariant

pub returns-in_err-total-clause-wide : goal.returns-in_err-total-clause-wide
returns-in_err-total-clause-wide c =
    let fits : SFits w128 c.number.result = search rules in
    let err = simp to_z-of_z at c.in_err-total.ensures.err in
    let r = number_at c.args.given.now c.args.parts.now c.loop-place.place c.number.result (omega arith) c.number.ensures in
    let met = Summing-met (map number_of (map (part c.args.given.now) c.args.parts.now)) c.loop-place.place (to_z w128 c.loop-place.total-bits) c.number.result r.0 r.1 c.loop-place.invariant in search (rules, met, err)
