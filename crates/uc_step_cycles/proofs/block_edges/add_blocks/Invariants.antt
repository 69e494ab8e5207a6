use Rattle.uc_step_cycles.specs.Building.{block_edges}
use Rattle.uc_step_cycles.proofs.Growing.{UpTo}
use Rattle.uc_step_cycles.proofs.block_edges.add_blocks.Given as goal

abbrev pub invariant-loop-node : goal.invariant-loop-node
invariant-loop-node l = UpTo (block_edges l.names l.bases) l.blocks l.fn.graph l.node l.graph
