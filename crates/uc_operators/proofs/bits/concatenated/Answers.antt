use Rattle.std.proofs.Common.{◌≡◌, ◌+◌, ◌≤◌, arith, ap, sym, subst}
use Rattle.uc_values.specs.Values.{width_in}
use Rattle.uc_meaning.specs.Operators.{chained, concatenated}
use Rattle.uc_operators.specs.Words.{IsWord}
use Rattle.uc_operators.proofs.Chains.{chained_more, chained_end, joined_word, width_more}
use Rattle.uc_operators.proofs.bits.concatenated.Goals as goal

pub joined-total-requires-clause-width : goal.joined-total-requires-clause-width
joined-total-requires-clause-width c =
    omega (arith, c.loop-place.invariant.width, width_more c.args.values.now c.loop-place.place c.index-values-place.result c.index-values-place.result c.loop-place-test.true c.index-values-place.is)

pub loop-place-preserved : goal.loop-place-preserved
loop-place-preserved c =
    let more = width_more c.args.values.now c.loop-place.place c.index-values-place.result c.index-values-place.result c.loop-place-test.true c.index-values-place.is in
    let word : IsWord c.index-values-place.result = subst IsWord (sym c.index-values-place.is) (c.requires.words c.loop-place.place c.index-values-place.result c.loop-place-test.true) in
    let wide = ap width_in c.joined-total.ensures in
    record {
      word = subst IsWord (sym c.joined-total.ensures) (joined_word c.loop-place.total c.index-values-place.result c.loop-place.invariant.word word (omega (arith, more, c.loop-place.invariant.width)));
      width = omega (arith, more, wide, c.loop-place.invariant.width);
      value = chained_more concatenated c.args.values.now c.loop-place.place c.loop-place.total c.joined-total.result c.index-values-place.result c.index-values-place.result
          (chained concatenated c.args.values.now) c.loop-place-test.true c.index-values-place.is c.joined-total.ensures c.loop-place.invariant.value;
    }

pub returns : goal.returns
returns c =
    chained_end concatenated c.args.values.now c.loop-place.place c.loop-place.total (chained concatenated c.args.values.now) c.loop-place-test.false c.loop-place.invariant.value
