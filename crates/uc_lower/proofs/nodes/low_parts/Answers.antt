use Rattle.std.proofs.Common.{arith}
use Rattle.uc_lower.proofs.Slices.{joined_more}
use Rattle.uc_lower.proofs.nodes.low_parts.Goals as goal

pub loop-part-preserved : goal.loop-part-preserved
loop-part-preserved c =
    joined_more c.args.lowered.now c.args.parts.now c.loop-part.all.items c.extend_from_slice.new.self.items c.low_of.result.now c.loop-part.part-index c.part-item.result c.part-item.is (omega (arith, c.loop-part-test.true)) c.loop-part.invariant c.low_of.ensures
    c.in_ok-extend_from_slice.ensures.items
