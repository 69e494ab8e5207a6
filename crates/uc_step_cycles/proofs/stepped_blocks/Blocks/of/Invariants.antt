use Rattle.uc_step_cycles.proofs.SteppedBlocksTabled.{TabledTo}
use Rattle.uc_step_cycles.proofs.stepped_blocks.Blocks.of.Given as goal

abbrev pub invariant-loop-node : goal.invariant-loop-node
invariant-loop-node l = TabledTo l.tree l.node-index l.blocks
