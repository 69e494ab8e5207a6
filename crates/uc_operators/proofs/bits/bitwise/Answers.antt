use Rattle.std.specs.Prelude.{◌≡◌}
use Rattle.uc_meaning.specs.Operators.{chained}
use Rattle.uc_operators.specs.Bits.{combined}
use Rattle.uc_operators.proofs.Chains.{chained_more, chained_end}
use Rattle.uc_operators.proofs.bits.bitwise.Goals as goal

pub loop-place-preserved : goal.loop-place-preserved
loop-place-preserved c =
    chained_more (combined c.args.operator) c.args.values.now c.loop-place.place c.loop-place.total c.combined-total.result c.index-values-place.result c.index-values-place.result
    (chained (combined c.args.operator) c.args.values.now) c.loop-place-test.true c.index-values-place.is c.combined-total.ensures c.loop-place.invariant

pub returns : goal.returns
returns c =
    chained_end (combined c.args.operator) c.args.values.now c.loop-place.place c.loop-place.total (chained (combined c.args.operator) c.args.values.now) c.loop-place-test.false c.loop-place.invariant
