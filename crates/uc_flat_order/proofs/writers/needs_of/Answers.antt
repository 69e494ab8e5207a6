use Rattle.uc_flat_order.proofs.Finding.{needs_end}
use Rattle.uc_flat_order.proofs.writers.needs_of.Goals as goal

pub returns : goal.returns
returns c = needs_end c.args.uses.now c.args.writers.now c.args.parts.now c.loop-part.part-index c.loop-part.needs c.requires c.loop-part.invariant c.loop-part-test.false
