use Rattle.std.proofs.Common.{◌≡◌, ◌+◌, ◌<◌, length, false, rules, arith}
use Rattle.uc_syntax.specs.declared.expression.SumSign.{SumSign}
use Rattle.uc_meaning.specs.Operators.{summed}
use Rattle.uc_meaning.specs.Overflow.{operations_of_sum}
use Rattle.uc_operators.specs.Overflows.{first_wide}
use Rattle.uc_operators.proofs.Chains.{summed_more, summed_end, sum_more, sum_told, sum_end}
use Rattle.uc_operators.proofs.arithmetic.summed.Goals as goal

any_sign : SumSign
any_sign = record { place = record { file = 0; line = 0; col = 0 }; is_minus = false }

pub returns-in_err-total-2-clause-wide : goal.returns-in_err-total-2-clause-wide
returns-in_err-total-2-clause-wide c =
    let signed : c.loop-place.place < length c.args.signs.now = omega (arith, c.loop-place-test.true, c.min-count.ensures) in
    let within : c.loop-place.place + 1 < length c.args.values.now = omega (arith, c.loop-place-test.true, c.min-count.ensures) in
    let told = sum_told c.args.signs.now c.args.values.now c.loop-place.place c.loop-place.total c.index-values-place.result c.index-values-place.result c.is_minus.result any_sign
    (first_wide (operations_of_sum c.args.signs.now c.args.values.now)) c.in_err-total-2.field-0.0
    signed within (c.is_minus.ensures any_sign) c.index-values-place.is c.loop-place.invariant.wide c.in_err-total-2.ensures.wide in
    search (rules, told)

pub loop-place-preserved : goal.loop-place-preserved
loop-place-preserved c =
    let signed : c.loop-place.place < length c.args.signs.now = omega (arith, c.loop-place-test.true, c.min-count.ensures) in
    let within : c.loop-place.place + 1 < length c.args.values.now = omega (arith, c.loop-place-test.true, c.min-count.ensures) in
    record {
      word = c.in_ok-total-2.ensures.word;
      value = summed_more c.args.signs.now c.args.values.now c.loop-place.place c.loop-place.total c.in_ok-total-2.total c.index-values-place.result c.index-values-place.result
          (summed c.args.signs.now c.args.values.now) c.is_minus.result any_sign signed within (c.is_minus.ensures any_sign) c.index-values-place.is c.in_ok-total-2.ensures.value c.loop-place.invariant.value;
      wide = sum_more c.args.signs.now c.args.values.now c.loop-place.place c.loop-place.total c.in_ok-total-2.total c.index-values-place.result c.index-values-place.result c.is_minus.result any_sign
          (first_wide (operations_of_sum c.args.signs.now c.args.values.now)) signed within (c.is_minus.ensures any_sign) c.index-values-place.is c.in_ok-total-2.ensures.value c.in_ok-total-2.ensures.wide c.loop-place.invariant.wide;
    }

pub returns-clause-value : goal.returns-clause-value
returns-clause-value c =
    summed_end c.args.signs.now c.args.values.now c.loop-place.place c.loop-place.total (summed c.args.signs.now c.args.values.now) (omega (arith, c.loop-place-test.false, c.min-count.ensures)) c.loop-place.invariant.value

pub returns-clause-wide : goal.returns-clause-wide
returns-clause-wide c =
    sum_end c.args.signs.now c.args.values.now c.loop-place.place c.loop-place.total (first_wide (operations_of_sum c.args.signs.now c.args.values.now)) (omega (arith, c.loop-place-test.false, c.min-count.ensures)) c.loop-place.invariant.wide
