use Rattle.uc_simplify_steps.proofs.Members.{Gathers-next}
use Rattle.uc_simplify_steps.proofs.gathering.all_parts.Goals as goal

pub loop-part-preserved : goal.loop-part-preserved
loop-part-preserved c =
    Gathers-next c.args.terms.now c.args.neutral c.args.parts.now c.loop-part.part-index c.part-item.result c.loop-part.all.items c.gather.new.all.items c.loop-part-test.true c.part-item.is c.in_ok-gather.ensures c.loop-part.invariant
