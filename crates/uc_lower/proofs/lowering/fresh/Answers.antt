use Rattle.std.proofs.Common.{refl}
use Rattle.uc_lower.proofs.Marking.{fresh_step, fresh_end}
use Rattle.uc_lower.proofs.lowering.fresh.Goals as goal

pub loop-place-preserved : goal.loop-place-preserved
loop-place-preserved c =
    fresh_step c.args.terms.now c.args.marks.now c.loop-place.place c.loop-place.above c.in_ok-above.above _ refl c.loop-place.invariant c.in_ok-above.ensures.above c.in_ok-above.ensures.next

pub returns : goal.returns
returns c = fresh_end c.args.terms.now c.args.marks.now c.loop-place.place c.loop-place.above c.loop-place-test.false c.loop-place.invariant
