use Rattle.std.proofs.Common.{rules}
use Rattle.uc_meaning.specs.Operators.{chained, product}
use Rattle.uc_meaning.specs.Overflow.{operations_of_product}
use Rattle.uc_operators.specs.Overflows.{first_wide}
use Rattle.uc_operators.proofs.Chains.{chained_more, chained_end, product_more, product_told, product_end}
use Rattle.uc_operators.proofs.arithmetic.multiplied.Goals as goal

pub returns-in_err-total-2-clause-wide : goal.returns-in_err-total-2-clause-wide
returns-in_err-total-2-clause-wide c =
    let told = product_told c.args.values.now c.loop-place.place c.loop-place.total c.index-values-place.result c.index-values-place.result (first_wide (operations_of_product c.args.values.now)) c.in_err-total-2.field-0.0
    c.loop-place-test.true c.index-values-place.is c.loop-place.invariant.wide c.in_err-total-2.ensures.wide in
    search (rules, told)

pub loop-place-preserved : goal.loop-place-preserved
loop-place-preserved c = record {
  word = c.in_ok-total-2.ensures.word;
  value = chained_more product c.args.values.now c.loop-place.place c.loop-place.total c.in_ok-total-2.total c.index-values-place.result c.index-values-place.result
      (chained product c.args.values.now) c.loop-place-test.true c.index-values-place.is c.in_ok-total-2.ensures.value c.loop-place.invariant.value;
  wide = product_more c.args.values.now c.loop-place.place c.loop-place.total c.in_ok-total-2.total c.index-values-place.result c.index-values-place.result
      (first_wide (operations_of_product c.args.values.now)) c.loop-place-test.true c.index-values-place.is c.in_ok-total-2.ensures.value c.in_ok-total-2.ensures.wide c.loop-place.invariant.wide;
}

pub returns-clause-value : goal.returns-clause-value
returns-clause-value c =
    chained_end product c.args.values.now c.loop-place.place c.loop-place.total (chained product c.args.values.now) c.loop-place-test.false c.loop-place.invariant.value

pub returns-clause-wide : goal.returns-clause-wide
returns-clause-wide c = product_end c.args.values.now c.loop-place.place c.loop-place.total (first_wide (operations_of_product c.args.values.now)) c.loop-place-test.false c.loop-place.invariant.wide
