use Rattle.uc_terms.proofs.Walk.{MarksMore-next}
use Rattle.uc_terms.proofs.marks.mark_all.Goals as goal

pub loop-part-preserved : goal.loop-part-preserved
loop-part-preserved c =
    MarksMore-next c.args.marks.now.items c.loop-part.marks.items c.args.parts.now c.loop-part.part-index c.part-item.result c.index.result
    c.loop-part-test.true c.part-item.is c.index.ensures c.requires c.loop-part.invariant
