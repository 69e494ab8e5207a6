use Rattle.std.proofs.Common.{◌<◌, length, ap, ◌∙◌, arith}
use Rattle.uc_meaning.specs.Types.{type_of_written}
use Rattle.uc_readings.proofs.Bound.{bound_more, bound_end}
use Rattle.uc_readings.proofs.applying.bound_locals.Goals as goal

pub loop-place-preserved : goal.loop-place-preserved
loop-place-preserved c =
    let within : c.loop-place.place < length c.args.parameters.now = omega (arith, c.loop-place-test.true, c.min-count.ensures) in
    let valued : c.loop-place.place < length c.args.arguments.now = omega (arith, c.loop-place-test.true, c.min-count.ensures) in
    let type = c.in_ok-ty.ensures ∙ ap (λ q. type_of_written q c.args.code.now c.index-parameters-place.result.ty) c.tables.ensures in
    bound_more c.args.layout.now c.args.code.now c.args.parameters.now c.args.arguments.now c.loop-place.place c.loop-place.locals.items _ c.loop-place.invariant
    c.index-parameters-place.result c.index-parameters-place.result c.index-arguments-place.result c.index-arguments-place.result
    (record { name = c.index-parameters-place.result.identifier.name; ty = c.in_ok-ty.ty; value = c.in_ok-value.value }) c.push.new.self.items
    within valued c.index-parameters-place.is c.index-arguments-place.is
    (λ i. record { name = c.index-parameters-place.result.identifier.name; ty = type i; value = c.in_ok-value.ensures i })
    c.in_ok-push.ensures.items

pub returns : goal.returns
returns c =
    c.from_vec.ensures ∙ c.reverse.ensures.items
    ∙ bound_end c.args.layout.now c.args.code.now c.args.parameters.now c.args.arguments.now c.loop-place.place c.loop-place.locals.items _ c.loop-place.invariant
    (omega (arith, c.loop-place-test.false, c.min-count.ensures))
