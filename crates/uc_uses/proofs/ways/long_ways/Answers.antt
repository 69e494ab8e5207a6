use Rattle.std.proofs.Common.{refl}
use Rattle.uc_uses.proofs.Rounds.{rounds_more}
use Rattle.uc_uses.proofs.ways.long_ways.Goals as goal

pub loop-step-preserved : goal.loop-step-preserved
loop-step-preserved c = rounds_more c.args.graph.now c.loop-step.step c.loop-step.flags _ c.in_ok-flags.flags _ c.loop-step.invariant c.as_slice.ensures refl c.in_ok-flags.ensures
